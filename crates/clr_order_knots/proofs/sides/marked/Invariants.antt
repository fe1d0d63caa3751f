use Rattle.std.proofs.Common.{false, get_or}
use Rattle.clr_order_knots.specs.Members.{AreThose}
use Rattle.clr_order_knots.proofs.sides.marked.Given as goal

-- the marked ones of the members so far
abbrev pub invariant-loop-member : goal.invariant-loop-member
invariant-loop-member l = AreThose l.member (λ m. get_or l.table m false) l.list.items
