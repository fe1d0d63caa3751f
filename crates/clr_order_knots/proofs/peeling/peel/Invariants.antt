use Rattle.std.proofs.Common.{length}
use Rattle.clr_order_knots.proofs.PeeledEnds.{IsPeeling}
use Rattle.clr_order_knots.proofs.peeling.peel.Given as goal

-- what is left is helped in between, and has each tangle
abbrev pub invariant-loop-peeled : goal.invariant-loop-peeled
invariant-loop-peeled l = IsPeeling l.needs l.count l.peeled

abbrev pub decreases-loop-peeled : goal.decreases-loop-peeled
decreases-loop-peeled l = length l.peeled.left.items
