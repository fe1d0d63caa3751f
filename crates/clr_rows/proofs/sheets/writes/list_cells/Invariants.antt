use Rattle.std.proofs.Common.{◌≡◌, take}
use Rattle.clr_rows.specs.Sheets.{named_cells}
use Rattle.clr_rows.proofs.sheets.writes.list_cells.Given as goal

-- the cells so far are listed
abbrev pub invariant-loop-cell : goal.invariant-loop-cell
invariant-loop-cell l = l.list.items ≡ named_cells (take l.cell-index l.cells)
