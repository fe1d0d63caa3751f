use Rattle.std.proofs.Common.{◌≡◌, ◌++◌, ◌∷◌, [], Option, append_assoc, sym, ap, ◌∙◌}
use Rattle.std.specs.Map.Iter.{deref_pair}
use Rattle.std.proofs.lemmas.Map.Iter.{rest_more}
use Rattle.std.specs.FinMap as finite
use Rattle.clr_rows.specs.declared.cells.CellId.{CellId}
use Rattle.clr_rows.specs.declared.rows.Row.{Row}
use Rattle.clr_rows.specs.Cells.{cell_cmp}
use Rattle.clr_deltas.specs.Differences.{Differences, RowsByCell}
use Rattle.clr_deltas.proofs.differences.Differences.rows.Goals as goal

pushed : (so_far : RowsByCell) (cell : CellId) (old row : Option Row) (left all : RowsByCell) → all ≡ (cell, old) ∷ left → row ≡ old
    → (so_far ++ (cell, row) ∷ []) ++ left ≡ so_far ++ all
pushed so_far cell old row left all rest same =
    append_assoc so_far ((cell, row) ∷ []) _ ∙ (λ i. so_far ++ ((cell, same i) ∷ left)) ∙ ap (λ (es : RowsByCell). so_far ++ es) (sym rest)

pub loop-cell-init : goal.loop-cell-init
loop-cell-init c =
    ap (λ (rows : RowsByCell). rows ++ c.into_iter-cell-iterator.result) c.new-rows.ensures.items ∙ c.into_iter-cell-iterator.ensures.into_iter_gives
    ∙ c.iter-cell-items.ensures.rest
    ∙ sym (finite.entries-from_sorted cell_cmp _ c.self.invariant) ∙ ap (λ (d : Differences). finite.entries d) c.self.view_is

pub loop-cell-preserved : goal.loop-cell-preserved
loop-cell-preserved c =
    let left = c.next.new.self in
    let rest = rest_more deref_pair c.loop-cell.cell-iterator left c.next.result (c.in-Some.cell, c.in-Some.row) c.in-Some.is c.next.ensures.steps in
    ap (λ (rows : RowsByCell). rows ++ left) c.in_ok-push.ensures.items
    ∙ pushed c.loop-cell.rows.items c.in-Some.cell.now c.in-Some.row.now c.in_ok-row.row left c.loop-cell.cell-iterator rest (c.in_ok-row.ensures
    ∙ c.as_ref.ensures.value)
    ∙ c.loop-cell.invariant
