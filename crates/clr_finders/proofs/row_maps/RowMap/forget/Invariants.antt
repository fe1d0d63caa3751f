use Rattle.std.proofs.Common.{◌≡◌}
use Rattle.std.specs.FinMap as finite
use Rattle.clr_finders.proofs.row_maps.RowMap.forget.Given as goal

-- the settled rows stay
abbrev pub invariant-loop-cell : goal.invariant-loop-cell
invariant-loop-cell l = l.self.settled ≡ l.fn.self.settled

abbrev pub decreases-loop-cell : goal.decreases-loop-cell
decreases-loop-cell l = finite.len l.self.pending
