use Rattle.std.proofs.Common.{◌≡◌}
use Rattle.std.specs.FinMap as finite
use Rattle.clr_rows.specs.declared.cells.CellId.{CellId}
use Rattle.clr_finders.specs.Sharing.{next_at}
use Rattle.clr_finders.proofs.row_maps.RowMap.settle.Given as goal

-- what stands at each cell at the end stays
abbrev pub invariant-loop-cell : goal.invariant-loop-cell
invariant-loop-cell l = (q : CellId) → next_at l.self.settled l.self.pending q ≡ next_at l.fn.self.settled l.fn.self.pending q

abbrev pub decreases-loop-cell : goal.decreases-loop-cell
decreases-loop-cell l = finite.len l.self.pending
