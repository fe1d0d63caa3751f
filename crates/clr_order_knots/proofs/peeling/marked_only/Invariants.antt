use Rattle.std.proofs.Common.{◌&&◌, false, get_or, not}
use Rattle.clr_order_knots.specs.Members.{AreThose}
use Rattle.clr_order_knots.proofs.peeling.marked_only.Given as goal

-- of the members so far those that are marked only here
abbrev pub invariant-loop-member : goal.invariant-loop-member
invariant-loop-member l = AreThose l.member (λ m. get_or l.table m false && not (get_or l.other m false)) l.list.items
