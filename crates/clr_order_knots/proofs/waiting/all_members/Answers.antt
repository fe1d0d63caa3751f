use Rattle.std.proofs.Common.{refl, true}
use Rattle.clr_order_knots.proofs.Those.{one_such}
use Rattle.clr_order_knots.proofs.waiting.all_members.Goals as goal

pub loop-member-preserved : goal.loop-member-preserved
loop-member-preserved c = one_such (λ m. true) c.loop-member.member c.loop-member.list.items c.push.new.self.items c.in_ok-push.ensures.items refl
    c.loop-member.invariant
