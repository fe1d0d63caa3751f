use Rattle.std.proofs.Common.{length}
use Rattle.clr_order_knots.specs.Members.{needs_at}
use Rattle.clr_order_answers.proofs.KnotOrders.{IsOrderedSoFar}
use Rattle.clr_order_answers.proofs.answers.answer_of_knots.Given as goal

-- the knots so far are in order
abbrev pub invariant-loop-peeled : goal.invariant-loop-peeled
invariant-loop-peeled l = IsOrderedSoFar l.needs l.count (needs_at l.needs l.initial.peeled.left.items) l.peeled

abbrev pub decreases-loop-peeled : goal.decreases-loop-peeled
decreases-loop-peeled l = length l.peeled.left.items
