-- The first content that breaks a need which isn't known, of a tree and of its office.
use Rattle.std.proofs.Common.{◌≡◌, ◌∙◌, ◌==◌, ℕ, suc, Bool, true, cond, List, [], ◌∷◌, length, Option, None, refl, sym, ap, arith}
use Rattle.std.specs.Option.{option_map, option_or}
use Rattle.clr_rows.specs.declared.tables.TableDef.{TableDef}
use Rattle.clr_rules.specs.declared.needs.Broken.{Broken}
use Rattle.clr_rules.specs.declared.rules.Rule.{Rule}
use Rattle.clr_audit.specs.Unknown.{first_unknown}
use Rattle.clr_workspaces.specs.Workspaces.{Workspace}
use Rattle.clr_workspaces.specs.Soundness.{IsSound}
use Rattle.clr_steps.specs.Invariants.{HoldsWhereKept, first_unheld, unheld_from}
use Rattle.clr_steps.specs.Offices.{Office, office_of}
use Rattle.clr_steps.specs.Refusals.{first_broken}
use Rattle.clr_steps.proofs.UnheldLemmas.{unheld_law}
use Rattle.clr_judges.specs.Unheld.{unknown_at, unknown_from}
use Rattle.clr_judges.proofs.Found.{all_unknown}
use Rattle.clr_engine.specs.Drafts.{unheld_in}

-- LIVE is kept, so that an office says the same as its tree
of_live : (schema : List TableDef) (book : List Rule) (known : List Broken) (ws : List Workspace) → IsSound ws
    → unknown_from book known 0 ws ≡ unheld_in (office_of schema book ws) known
unfolding unknown_from
of_live schema book known [] sound = absurd (omega (arith, sound.rooted.filled))
of_live schema book known (live ∷ ws) sound =
    ap (λ (kept : Bool). option_or (option_map (λ need. (0, need)) (cond kept (first_unknown book known live.current) None)) (unknown_from book known 1 ws)) sound.held

pub unheld_is : (schema : List TableDef) (book : List Rule) (known : List Broken) (ws : List Workspace) (o : Office) → IsSound ws → office_of schema book ws ≡ o
    → unknown_from book known 0 ws ≡ unheld_in o known
unheld_is schema book known ws o sound is = of_live schema book known ws sound ∙ ap (λ (o : Office). unheld_in o known) is

-- where no need is known, each that is broken is unknown
from_none_known : (book : List Rule) (at : ℕ) (ws : List Workspace) → unknown_from book [] at ws ≡ unheld_from book at ws
unfolding unknown_from unheld_from
from_none_known book at [] = refl
from_none_known book at (w ∷ ws) =
    λ i. option_or (option_map (λ need. (at, need)) (cond w.kept (all_unknown book w.current i) None)) (from_none_known book (suc at) ws i)

pub unheld_of_none_known : (o : Office)
    → unheld_in o [] ≡ option_or (option_map (λ need. (0, need)) (first_broken o.book o.live)) (unheld_from o.book 1 o.workspaces)
unheld_of_none_known o = λ i. option_or (option_map (λ need. (0, need)) (all_unknown o.book o.live i)) (from_none_known o.book 1 o.workspaces i)

pub holds_of_none_known : (schema : List TableDef) (book : List Rule) (known : List Broken) (ws : List Workspace) → IsSound ws → (length known == 0) ≡ true
    → unknown_from book known 0 ws ≡ None → HoldsWhereKept (office_of schema book ws)
holds_of_none_known schema book [] ws sound e none = (unheld_law schema book ws sound).0 (sym (from_none_known book 0 ws) ∙ none)
holds_of_none_known schema book (b ∷ known) ws sound e none = absurd (grind arith)
