use Rattle.std.proofs.Common.{◌≡◌, take}
use Rattle.clr_rows.specs.Contents.{over}
use Rattle.clr_rows.specs.Sheets.{with_none}
use Rattle.clr_rows.proofs.sheets.writes.take_all.Given as goal

-- the cells so far have no row
abbrev pub invariant-loop-cell : goal.invariant-loop-cell
invariant-loop-cell l = l.sheet ≡ over l.fn.sheet (with_none (take l.cell-index l.cells))
