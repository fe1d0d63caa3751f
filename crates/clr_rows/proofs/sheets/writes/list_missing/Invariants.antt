use Rattle.std.proofs.Common.{◌≡◌, take}
use Rattle.clr_rows.specs.Sheets.{cells_without_rows}
use Rattle.clr_rows.proofs.sheets.writes.list_missing.Given as goal

-- the cells so far that have no row are listed
abbrev pub invariant-loop-cell : goal.invariant-loop-cell
invariant-loop-cell l = l.list.items ≡ cells_without_rows l.sheet (take l.cell-index l.cells)
