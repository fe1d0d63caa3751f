use Rattle.std.proofs.Common.{◌≡◌, ◌++◌, ◌∷◌, [], List, Option, append_assoc, sym, ap, ◌∙◌}
use Rattle.std.specs.Map.Iter.{deref_pair}
use Rattle.std.proofs.lemmas.Map.Iter.{rest_more}
use Rattle.std.specs.FinMap as finite
use Rattle.clr_rows.specs.declared.cells.CellId.{CellId}
use Rattle.clr_rows.specs.declared.rows.Row.{Row}
use Rattle.clr_rows.specs.Cells.{cell_cmp}
use Rattle.clr_deltas.specs.Differences.{Differences, RowsByCell, cells_in}
use Rattle.clr_deltas.proofs.differences.Differences.cells.Goals as goal

pushed : (so_far : List CellId) (cell : CellId) (row : Option Row) (left all : RowsByCell) → all ≡ (cell, row) ∷ left
    → (so_far ++ cell ∷ []) ++ cells_in left ≡ so_far ++ cells_in all
pushed so_far cell row left all rest = append_assoc so_far (cell ∷ []) _ ∙ ap (λ (es : RowsByCell). so_far ++ cells_in es) (sym rest)

pub loop-cell-init : goal.loop-cell-init
loop-cell-init c =
    ap (λ (cells : List CellId). cells ++ cells_in c.into_iter-cell-iterator.result) c.new-cells.ensures.items
    ∙ ap cells_in (c.into_iter-cell-iterator.ensures.into_iter_gives ∙ c.iter-cell-items.ensures.rest
    ∙ sym (finite.entries-from_sorted cell_cmp _ c.self.invariant))
    ∙ ap (λ (d : Differences). finite.keys d) c.self.view_is

pub loop-cell-preserved : goal.loop-cell-preserved
loop-cell-preserved c =
    let left = c.next.new.self in
    let rest = rest_more deref_pair c.loop-cell.cell-iterator left c.next.result (c.in-Some.cell, c.in-Some.field-0-1) c.in-Some.is c.next.ensures.steps in
    ap (λ (cells : List CellId). cells ++ cells_in left) c.in_ok-push.ensures.items
    ∙ pushed c.loop-cell.cells.items c.in-Some.cell.now _ left c.loop-cell.cell-iterator rest
    ∙ c.loop-cell.invariant
