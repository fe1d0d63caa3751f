use Rattle.std.proofs.Common.{false, get_or, not}
use Rattle.clr_order_knots.specs.Members.{AreThose}
use Rattle.clr_order_knots.proofs.ends.unmarked.Given as goal

-- of the members so far those that aren't marked
abbrev pub invariant-loop-member : goal.invariant-loop-member
invariant-loop-member l = AreThose l.member (λ m. not (get_or l.table m false)) l.list.items
