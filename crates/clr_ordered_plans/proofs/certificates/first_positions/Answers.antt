use Rattle.clr_listed_covers.proofs.LateLaws.{one_position_more}
use Rattle.clr_ordered_plans.proofs.certificates.first_positions.Goals as goal

pub loop-position-preserved : goal.loop-position-preserved
loop-position-preserved c =
    one_position_more c.loop-position.list.items c.push.new.self.items c.loop-position.position c.loop-position.invariant c.in_ok-push.ensures.items
