use Rattle.std.proofs.Common.{◌≡◌}
use Rattle.std.specs.Vec.Iter.{into_iter_items}
use Rattle.clr_rows.specs.Contents.{no_rows, over}
use Rattle.clr_rows.proofs.sheets.writes.last_rows.Given as goal

-- what is left to put makes the whole
abbrev pub invariant-loop-cell : goal.invariant-loop-cell
invariant-loop-cell l = over l.sheet (into_iter_items l.cell-iterator) ≡ over no_rows l.fn.cells.items
