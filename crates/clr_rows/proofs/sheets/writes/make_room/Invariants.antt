use Rattle.std.proofs.Common.{◌≡◌, take}
use Rattle.clr_rows.specs.Contents.{over}
use Rattle.clr_rows.specs.Sheets.{with_placeholders}
use Rattle.clr_rows.proofs.sheets.writes.make_room.Given as goal

-- the cells so far have their rows
abbrev pub invariant-loop-cell : goal.invariant-loop-cell
invariant-loop-cell l = l.sheet ≡ over l.fn.sheet (with_placeholders (take l.cell-index l.cells))
