use Rattle.std.proofs.Common.{◌≡◌, ◌++◌, ◌∷◌, List, [], map, Option, append_assoc, sym, ap, ◌∙◌}
use Rattle.std.specs.Map.Iter.{deref_pair}
use Rattle.std.proofs.lemmas.Map.Iter.{rest_more}
use Rattle.clr_rows.specs.declared.cells.CellId.{CellId}
use Rattle.clr_rows.specs.declared.rows.Row.{Row}
use Rattle.clr_rows.specs.declared.cells.Change.{Change}
use Rattle.clr_change.proofs.change_sets.ChangeSet.rows_after.Goals as goal

abbrev Rows : Type 0
Rows = List (CellId × Option Row)

pushed : (so_far : Rows) (cell : CellId) (change : Change) (row : Option Row) (left all : List (CellId × Change)) → all ≡ (cell, change) ∷ left → row
    ≡ change.after
    → (so_far ++ (cell, row) ∷ []) ++ map (λ e. (e.0, e.1.after)) left ≡ so_far ++ map (λ e. (e.0, e.1.after)) all
pushed so_far cell change row left all rest same =
    append_assoc so_far ((cell, row) ∷ []) _
    ∙ (λ i. so_far ++ ((cell, same i) ∷ map (λ e. (e.0, e.1.after)) left))
    ∙ ap (λ (es : List (CellId × Change)). so_far ++ map (λ e. (e.0, e.1.after)) es) (sym rest)

pub loop-cell-preserved : goal.loop-cell-preserved
loop-cell-preserved c =
    let left = c.next.new.self in
    let rest = rest_more deref_pair c.loop-cell.cell-iterator left c.next.result (c.in-Some.cell, c.in-Some.change) c.in-Some.is c.next.ensures.steps in
    ap (λ (rows : Rows). rows ++ map (λ e. (e.0, e.1.after)) left) c.in_ok-push.ensures.items
    ∙ pushed c.loop-cell.rows.items c.in-Some.cell.now c.in-Some.change.now c.in_ok-row.row left c.loop-cell.cell-iterator rest (c.in_ok-row.ensures
    ∙ c.as_ref.ensures.value)
    ∙ c.loop-cell.invariant
