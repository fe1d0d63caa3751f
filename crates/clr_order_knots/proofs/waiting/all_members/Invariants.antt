use Rattle.std.proofs.Common.{true}
use Rattle.clr_order_knots.specs.Members.{AreThose}
use Rattle.clr_order_knots.proofs.waiting.all_members.Given as goal

-- the members so far
abbrev pub invariant-loop-member : goal.invariant-loop-member
invariant-loop-member l = AreThose l.member (λ m. true) l.list.items
