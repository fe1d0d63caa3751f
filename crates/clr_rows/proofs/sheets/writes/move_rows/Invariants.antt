use Rattle.std.proofs.Common.{◌≡◌, true, is_some}
use Rattle.std.specs.FinMap as finite
use Rattle.clr_rows.specs.declared.cells.CellId.{CellId}
use Rattle.clr_rows.specs.Cells.{cell_cmp}
use Rattle.clr_rows.specs.Contents.{row_at, over}
use Rattle.clr_rows.specs.Sheets.{with_rows}
use Rattle.clr_rows.proofs.sheets.writes.move_rows.Given as goal

-- what is left to move makes the whole, and each of its cells has a row
abbrev pub invariant-loop-cell : goal.invariant-loop-cell
invariant-loop-cell l = record {
  so_far : over l.sheet (with_rows l.cell-iterator) ≡ over l.fn.sheet (with_rows (finite.entries l.fn.rows));
  present : (cell : CellId) → is_some (finite.find cell_cmp cell l.cell-iterator) ≡ true → is_some (row_at l.sheet cell) ≡ true;
}
