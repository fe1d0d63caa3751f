use Rattle.std.proofs.Common.{◌≡◌, ◌++◌, ◌∷◌, List, [], Option, Some, append_assoc, sym, ap, ◌∙◌}
use Rattle.std.specs.Map.Iter.{deref_pair}
use Rattle.std.proofs.lemmas.Map.Iter.{rest_more}
use Rattle.clr_rows.specs.declared.cells.CellId.{CellId}
use Rattle.clr_rows.specs.declared.rows.Row.{Row}
use Rattle.clr_rows.specs.Sheets.{with_rows}
use Rattle.clr_layer_changes.proofs.wanted.add_rows.Goals as goal

abbrev Rows : Type 0
Rows = List (CellId × Option Row)

pushed : (so_far : Rows) (cell : CellId) (row copy : Row) (left all : List (CellId × Row)) → all ≡ (cell, row) ∷ left → copy ≡ row
    → (so_far ++ (cell, Some copy) ∷ []) ++ with_rows left ≡ so_far ++ with_rows all
pushed so_far cell row copy left all rest same =
    append_assoc so_far ((cell, Some copy) ∷ []) _
    ∙ (λ i. so_far ++ ((cell, Some (same i)) ∷ with_rows left))
    ∙ ap (λ (es : List (CellId × Row)). so_far ++ with_rows es) (sym rest)

pub loop-cell-preserved : goal.loop-cell-preserved
loop-cell-preserved c =
    let left = c.next.new.self in
    let rest = rest_more deref_pair c.loop-cell.cell-iterator left c.next.result (c.in-Some.cell, c.in-Some.row) c.in-Some.is c.next.ensures.steps in
    ap (λ (rows : Rows). rows ++ with_rows left) c.in_ok-push.ensures.items
    ∙ pushed c.loop-cell.cells.items c.in-Some.cell.now c.in-Some.row.now c.in_ok-copy.field-0 left c.loop-cell.cell-iterator rest c.in_ok-copy.ensures
    ∙ c.loop-cell.invariant
