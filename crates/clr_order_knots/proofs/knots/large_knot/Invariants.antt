use Rattle.std.proofs.Common.{length}
use Rattle.clr_order_knots.proofs.Gathering.{IsSmallSoFar}
use Rattle.clr_order_knots.proofs.knots.large_knot.Given as goal

-- the knots so far are small
abbrev pub invariant-loop-alloc : goal.invariant-loop-alloc
invariant-loop-alloc l = IsSmallSoFar l.needs l.left l.rest.items

abbrev pub decreases-loop-alloc : goal.decreases-loop-alloc
decreases-loop-alloc l = length l.rest.items
