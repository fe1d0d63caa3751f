-- The changes of one workspace after a merge, a refresh, rolling back or resolving.
use Rattle.std.proofs.Common.{◌≡◌, Bool, true, false, cond, not, ◌&&◌, List, [], ◌∷◌, Option, Some, None, refl, sym, ap, ◌∙◌}
use Rattle.std.specs.Option.{option_map, unwrap_or}
use Rattle.std.proofs.lemmas.Bool.{not-false}
use Rattle.clr_rows.specs.declared.cells.CellId.{CellId}
use Rattle.clr_rows.specs.declared.cells.Change.{Change}
use Rattle.clr_rows.specs.declared.rows.Row.{Row}
use Rattle.clr_rows.specs.Contents.{Content, row_at, set_cell, is_changed, change_at, change_of, conflicts, least_and_count}
use Rattle.clr_rows.specs.Same.{same}
use Rattle.clr_rows.proofs.ChangeLemmas.{get-changes, row-merged, row-set_cell, taken_over-own, tied_self, IsUntouched, untouched_from_none}
use Rattle.clr_rows.proofs.ChangeLemmas.{none_from_untouched}
use Rattle.clr_rows.proofs.SameLemmas.{same_is, same_itself}
use Rattle.clr_workspaces.specs.Workspaces.{Workspace}
use Rattle.clr_workspaces.specs.declared.rebases.Keep.{Keep}
use Rattle.clr_workspaces.specs.declared.rebases.Keep.TheVariants as keeps
use Rattle.clr_workspaces.specs.Operations.{own_changes, keep_row}
use Rattle.clr_steps.specs.Refusals.{in_conflict, conflict_with, is_in_conflict_with}
use Rattle.clr_steps.specs.WorkspaceLaws.{ConflictLaw, ChangesAfterMergeLaw, RollAllLaw, ChangesAfterRefreshLaw, ResolveLaw}

-- a content isn't changed over itself
unchanged : (content : Content) (cell : CellId) → change_at content content cell ≡ None
unchanged content cell = rw (same_itself (row_at content cell)) refl

pub merge_law : ChangesAfterMergeLaw
merge_law w cell = ap (λ base. change_at base w.current cell) (taken_over-own w.base w.current) ∙ unchanged w.current cell

pub roll_all_law : RollAllLaw
roll_all_law w cell = unchanged w.base cell

-- conflicts ---------------------------------------------------------------------------------------------------------

pub none_listed : (cells : List CellId) → option_map in_conflict (least_and_count cells) ≡ None → cells ≡ []
none_listed [] e = refl
none_listed (c ∷ cs) e = absurd (cc)

-- at each changed cell, the content has the row of the base
agrees : (above : Content) (w : Workspace) → conflict_with above w ≡ None → (cell : CellId) → is_changed w.base w.current cell ≡ true → row_at above cell
    ≡ row_at w.base cell
agrees above w none cell e =
    untouched_from_none above (own_changes w) (none_listed (conflicts above (own_changes w)) none) cell (change_of w.base w.current cell)
    (get-changes w.base w.current cell ∙ ap (λ b. cond b (Some (change_of w.base w.current cell)) None) e)

no_cell : (above : Content) (w : Workspace) → conflict_with above w ≡ None → (cell : CellId) → is_in_conflict_with above w cell ≡ false
no_cell above w none cell = by (is_changed w.base w.current cell) refl
  where
    by : (b : Bool) → is_changed w.base w.current cell ≡ b → (b && not (same (row_at above cell) (row_at w.base cell))) ≡ false
    by false e = refl
    by true e = ap not (ap (λ r. same r (row_at w.base cell)) (agrees above w none cell e) ∙ same_itself (row_at w.base cell))

none_of_cells : (above : Content) (w : Workspace) → ((cell : CellId) → is_in_conflict_with above w cell ≡ false) → conflict_with above w ≡ None
none_of_cells above w free = ap (λ cells. option_map in_conflict (least_and_count cells)) (none_from_untouched above (own_changes w) untouched)
  where
    by : (cell : CellId) (change : Change) (b : Bool) → (b && not (same (row_at above cell) (row_at w.base cell))) ≡ false
        → cond b (Some (change_of w.base w.current cell)) None ≡ Some change → row_at above cell ≡ change.before
    by cell change false h e = absurd (cc)
    by cell change true h e =
        let one : change_of w.base w.current cell ≡ change = cc in
        same_is (row_at above cell) (row_at w.base cell) (not-false _ h) ∙ ap (λ (c : Change). c.before) one

    untouched : IsUntouched above (own_changes w)
    untouched cell change e = by cell change (is_changed w.base w.current cell) (free cell) (sym (get-changes w.base w.current cell) ∙ e)

pub conflict_law : ConflictLaw
conflict_law above w = (no_cell above w, none_of_cells above w)

-- a refresh ---------------------------------------------------------------------------------------------------------

pub refresh_law : ChangesAfterRefreshLaw
refresh_law above w none cell =
    ap (λ r. cond (not (same (row_at above cell) r)) (Some r) None) (row-merged above w.base w.current cell) ∙ by (is_changed w.base w.current cell) refl
  where
    by : (b : Bool) → is_changed w.base w.current cell ≡ b
        → (let r = unwrap_or (cond b (Some (row_at w.current cell)) None) (row_at above cell) in cond (not (same (row_at above cell) r)) (Some r) None)
        ≡ cond b (Some (row_at w.current cell)) None
    by false e = rw (same_itself (row_at above cell)) refl
    by true e = ap (λ r. cond (not (same r (row_at w.current cell))) (Some (row_at w.current cell)) None) (agrees above w none cell e)
        ∙ ap (λ b. cond b (Some (row_at w.current cell)) None) e

-- one cell ----------------------------------------------------------------------------------------------------------

set_here : (content : Content) (cell : CellId) (row : Option Row) → row_at (set_cell content cell row) cell ≡ row
set_here content cell row = row-set_cell content cell row cell ∙ ap (λ b. cond b row (row_at content cell)) (tied_self cell)

pub resolve_law : ResolveLaw
resolve_law above w cell keep = by keep
  where
    and_false : (a b : Bool) → b ≡ false → (a && b) ≡ false
    and_false true b e = e
    and_false false b e = refl

    agree : not (same (row_at above cell) (row_at (set_cell w.base cell (row_at above cell)) cell)) ≡ false
    agree = ap not (ap (same (row_at above cell)) (set_here w.base cell (row_at above cell)) ∙ same_itself (row_at above cell))

    by : (keep : Keep) → is_in_conflict_with above (keep_row cell keep above w) cell ≡ false
    by keeps.Parent = and_false _ _ agree
    by keeps.Child = and_false _ _ agree
    by keeps.Base = and_false _ _ agree
