-- Changes differ from the rows over which they are made.
use Rattle.std.proofs.Common.{◌≡◌, ◌∙◌, zero, suc, Bool, true, false, ◌&&◌, not, cond, List, [], ◌∷◌, refl, sym, ap, Option, Some, None}
use Rattle.std.specs.Option.{option_map}
use Rattle.std.proofs.lemmas.Bool.{false≢true, true≢false}
use Rattle.clr_rows.specs.declared.cells.CellId.{CellId}
use Rattle.clr_rows.specs.declared.cells.Change.{Change}
use Rattle.clr_rows.specs.declared.rows.Row.{Row}
use Rattle.clr_rows.specs.Contents.{Changes, Content, change_at, change_of, changes, conflicts, is_changed, least_and_count, row_at}
use Rattle.clr_rows.specs.Same.{same}
use Rattle.clr_rows.proofs.ChangeLemmas.{get-changes}
use Rattle.clr_rows.proofs.SameLemmas.{same_decides}
use Rattle.clr_rules.specs.declared.rules.Rule.{Rule}
use Rattle.clr_needs.specs.Members.{after_in, setting}
use Rattle.clr_needs.specs.Settings.{DoChange}
use Rattle.clr_workspaces.specs.Workspaces.{Workspace}
use Rattle.clr_workspaces.specs.Operations.{own_changes}
use Rattle.clr_steps.specs.Refusals.{conflict_with, in_conflict, is_in_conflict_with}
use Rattle.clr_steps.proofs.WorkspaceLemmas.{conflict_law}
use Rattle.clr_judges.specs.Fitting.{DoChangeRows}

after-changes : (base current : Content) (cell : CellId) → after_in (changes base current) cell ≡ change_at base current cell
after-changes base current cell = ap (option_map (λ (e : Change). e.after)) (get-changes base current cell) ∙ by (is_changed base current cell)
  where
    by : (b : Bool) → option_map (λ (e : Change). e.after) (cond b (Some (change_of base current cell)) None) ≡ cond b (Some (row_at current cell)) None
    by true = refl
    by false = refl

-- a cell that changes from one content to another, and the row that it has then
changed_row : (base current : Content) (q : CellId) (row : Option Row) → after_in (changes base current) q ≡ Some row
    → (is_changed base current q ≡ true) × (row_at current q ≡ row)
changed_row base current q row e = by (is_changed base current q) refl (sym (after-changes base current q) ∙ e)
  where
    by : (b : Bool) → is_changed base current q ≡ b → cond b (Some (row_at current q)) None ≡ Some row
        → (is_changed base current q ≡ true) × (row_at current q ≡ row)
    by true h f = (h, cc)
    by false h f = cc

-- a changed cell hasn't one row
differs : (base current : Content) (q : CellId) → is_changed base current q ≡ true → row_at current q ≡ row_at base q → ⊥
differs base current q changed e = false≢true (sym (ap not ((same_decides (row_at base q) (row_at current q)).1 (sym e))) ∙ changed)

pub changes_change : (current other : Content) (changed : Changes) → changed ≡ changes current other → DoChangeRows current changed
changes_change current other changed e q row after rows =
    let (is, to) = changed_row current other q row (ap (λ (set : Changes). after_in set q) (sym e) ∙ after) in
    differs current other q is (to ∙ rows)

-- changes of a workspace without a conflict change what is above it
pub own_changes_change : (above : Content) (w : Workspace) (changed : Changes) → changed ≡ own_changes w
    → least_and_count (conflicts above changed) ≡ None → DoChangeRows above changed
own_changes_change above w changed e free q row after rows =
    let (is, to) = changed_row w.base w.current q row (ap (λ (set : Changes). after_in set q) (sym e) ∙ after) in
    let none : conflict_with above w ≡ None = ap (option_map in_conflict) (ap (λ (set : Changes). least_and_count (conflicts above set)) (sym e) ∙ free) in
    let calm : is_in_conflict_with above w q ≡ false = (conflict_law above w).0 none q in
    let alike : row_at above q ≡ row_at w.base q = by (same (row_at above q) (row_at w.base q)) refl
    (sym (ap (λ b. b && not (same (row_at above q) (row_at w.base q))) is) ∙ calm) in
    differs w.base w.current q is (to ∙ rows ∙ alike)
  where
    by : (b : Bool) → same (row_at above q) (row_at w.base q) ≡ b → not b ≡ false → row_at above q ≡ row_at w.base q
    by true h f = (same_decides (row_at above q) (row_at w.base q)).0 h
    by false h f = absurd (true≢false f)

-- as the changes of the one member of a setting
pub do_change : (book : List Rule) (content : Content) (changed : Changes) → DoChangeRows content changed → DoChange (setting book content (changed ∷ []))
do_change book content changed h zero q row member e rows = h q row e rows
do_change book content changed h (suc k) q row member e rows = cc
