use Rattle.std.proofs.Common.{◌≡◌, true, List, None, Some, subst, is_some}
use Rattle.std.specs.FinMap as finite
use Rattle.std.specs.Prelude.{slice_get}
use Rattle.clr_rows.specs.declared.cells.CellId.{CellId}
use Rattle.clr_finders.specs.NextCells.{IsNextOf}
use Rattle.clr_finders.specs.RowMaps.{RowOrNone, FiledRows, settled_of}
use Rattle.clr_finders.proofs.NextInTree.{cell_at, first_cell_at}
use Rattle.clr_finders.proofs.row_maps.RowMap.next_cell.Goals as goal

pub returns-in-Some : goal.returns-in-Some
returns-in-Some c =
    let settled = c.self.inside.settled.entries in
    subst (λ (rows : FiledRows). IsNextOf (λ q. is_some (finite.get rows.settled q) ≡ true) c.args.after (Some c.in-Some.cell.now)) c.self.view_is
    (subst (λ (r : List (CellId × RowOrNone)). IsNextOf (λ q. is_some (finite.get (settled_of settled) q) ≡ true) c.args.after (cell_at (slice_get r 0)))
    c.in-Some.ensures.steps
    (first_cell_at c.args.after c.bound_behind.result c.self.inside.settled c.range.result c.bound_behind.ensures (c.range.ensures.in_range tt)))

pub returns-in-None : goal.returns-in-None
returns-in-None c =
    let settled = c.self.inside.settled.entries in
    subst (λ (rows : FiledRows). IsNextOf (λ q. is_some (finite.get rows.settled q) ≡ true) c.args.after None) c.self.view_is
    (subst (λ (r : List (CellId × RowOrNone)). IsNextOf (λ q. is_some (finite.get (settled_of settled) q) ≡ true) c.args.after (cell_at (slice_get r 0)))
    c.in-None.ensures.steps.0
    (first_cell_at c.args.after c.bound_behind.result c.self.inside.settled c.range.result c.bound_behind.ensures (c.range.ensures.in_range tt)))
