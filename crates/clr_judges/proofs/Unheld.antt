-- A search for the first workspace that is kept and breaks a need which isn't known.
use Rattle.std.proofs.Common.{◌≡◌, ℕ, suc, ◌+◌, ◌<◌, ◌≤◌, List, [], ◌∷◌, length, drop, Option, None, ap, ◌∙◌, arith}
use Rattle.std.specs.Option.{option_map, option_or}
use Rattle.std.proofs.lemmas.List.{drop_all, drop_more}
use Rattle.clr_rules.specs.declared.needs.Broken.{Broken}
use Rattle.clr_rules.specs.declared.rules.Rule.{Rule}
use Rattle.clr_workspaces.specs.Workspaces.{Workspace, no_workspace, workspace_at}
use Rattle.clr_judges.specs.Unheld.{unknown_at, unknown_from}

one : (k : ℕ) → suc k ≡ k + 1
one k = omega arith

-- of the workspaces from a position on
pub unheld_here : (book : List Rule) (known : List Broken) (ws : List Workspace) (at : ℕ) (need : Option Broken) → at < length ws
    → unknown_at book known (workspace_at ws at) ≡ need
    → unknown_from book known at (drop at ws) ≡ option_or (option_map (λ need. (at, need)) need) (unknown_from book known (at + 1) (drop (at + 1) ws))
unfolding unknown_from
unheld_here book known ws at need lt e =
    let rest = drop (at + 1) ws in
    ap (unknown_from book known at) (drop_more ws at no_workspace lt)
    ∙ ap (λ (n : Option Broken). option_or (option_map (λ need. (at, need)) n) (unknown_from book known (suc at) rest)) e
    ∙ ap (λ k. option_or (option_map (λ need. (at, need)) need) (unknown_from book known k rest)) (one at)

-- no workspace is left past the end
pub none_past : (book : List Rule) (known : List Broken) (ws : List Workspace) (at : ℕ) → length ws ≤ at → unknown_from book known at (drop at ws) ≡ None
unfolding unknown_from
none_past book known ws at le = ap (unknown_from book known at) (drop_all at ws le)
