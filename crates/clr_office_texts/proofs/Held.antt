-- Every rule holds where no workspace is unheld.
use Rattle.std.proofs.Common.{◌≡◌, ℕ, suc, Bool, true, false, ◌||◌, cond, List, [], ◌∷◌, Option, Some, None, refl, sym, ap, subst, ◌∙◌}
use Rattle.std.specs.Option.{option_map, option_map_or, option_or}
use Rattle.std.proofs.lemmas.Bool.{false≢true}
use Rattle.std.proofs.lemmas.Option.{none-some, same_Some}
use Rattle.clr_rows.specs.Contents.{row_at}
use Rattle.clr_rules.specs.declared.rules.Rule.{Rule}
use Rattle.clr_rules.specs.Needs.{Holds}
use Rattle.clr_workspaces.specs.Marks.{Name}
use Rattle.clr_workspaces.specs.Workspaces.{Workspace}
use Rattle.clr_steps.specs.Invariants.{unheld_from}
use Rattle.clr_steps.specs.Names.{is_live, same_name}
use Rattle.clr_steps.specs.Offices.{Office, content_of, current_of, find_name, is_kept, workspace}
use Rattle.clr_steps.specs.Refusals.{first_broken}
use Rattle.clr_steps.proofs.NeedLemmas.{holds_if_none}
use Rattle.clr_steps.proofs.UnheldLemmas.{none_then}
use Rattle.clr_engine.proofs.Unheld.{unheld_of_none_known}
use Rattle.clr_office_texts.specs.Laws.{HeldLaw}

-- the first workspace of a name breaks no rule, where it is kept and nothing kept is found to break one
module _ (book : List Rule) (name : Name) where
  -- a workspace of this name is the first of a list, or stands behind the first
  none_by : (here : Bool) (at : ℕ) (v : Workspace) (ws : List Workspace) (w : Workspace) → cond v.kept (first_broken book v.current) None ≡ None
      → (find_name name ws ≡ Some w → first_broken book w.current ≡ None) → cond here (Some v) (find_name name ws) ≡ Some w → w.kept ≡ true
      → first_broken book w.current ≡ None
  none_by true at v ws w none later f k =
      subst (λ (x : Workspace). x.kept ≡ true → first_broken book x.current ≡ None) (same_Some v w f)
      (λ kept. sym (ap (λ b. cond b (first_broken book v.current) None) kept) ∙ none) k
  none_by false at v ws w none later f k = later f

  none_at : (at : ℕ) (ws : List Workspace) (w : Workspace) → unheld_from book at ws ≡ None → find_name name ws ≡ Some w → w.kept ≡ true
      → first_broken book w.current ≡ None
  unfolding unheld_from
  none_at at [] w e f k = absurd (none-some w f)
  none_at at (v ∷ ws) w e f k =
      let both = none_then (cond v.kept (first_broken book v.current) None) at (unheld_from book (suc at) ws) e in
      none_by (same_name name v.name) at v ws w both.0 (λ later. none_at (suc at) ws w both.1 later k) f k

module _ (o : Office) (name : Name)
    (none : option_or (option_map (λ need. (0, need)) (first_broken o.book o.live)) (unheld_from o.book 1 o.workspaces) ≡ None) where
  holds_at : (r : Option Workspace) → find_name name o.workspaces ≡ r → option_map_or (λ w. w.kept) r false ≡ true → Holds o.book (row_at (current_of r))
  holds_at None f k = absurd (false≢true k)
  holds_at (Some w) f k =
      let rest = (none_then (first_broken o.book o.live) 0 (unheld_from o.book 1 o.workspaces) none).1 in
      holds_if_none o.book w.current (none_at o.book name 1 o.workspaces w rest f k)

  holds_by : (live : Bool) → (live || option_map_or (λ w. w.kept) (cond live None (find_name name o.workspaces)) false) ≡ true
      → Holds o.book (row_at (cond live o.live (current_of (find_name name o.workspaces))))
  holds_by true k = holds_if_none o.book o.live (none_then (first_broken o.book o.live) 0 (unheld_from o.book 1 o.workspaces) none).0
  holds_by false k = holds_at (find_name name o.workspaces) refl k

pub held_law : HeldLaw
unfolding is_kept workspace content_of
held_law o none name kept = holds_by o name (sym (unheld_of_none_known o) ∙ none) (is_live name) kept
