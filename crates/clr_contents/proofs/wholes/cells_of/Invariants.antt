use Rattle.std.proofs.Common.{◌≡◌, take}
use Rattle.clr_deltas.specs.Differences.{cells_in}
use Rattle.clr_contents.proofs.wholes.cells_of.Given as goal

abbrev pub invariant-loop-cell : goal.invariant-loop-cell
invariant-loop-cell l = l.cells.items ≡ cells_in (take l.cell-index l.rows)
