use Rattle.clr_order_search.proofs.Tables.{one_more}
use Rattle.clr_order_search.proofs.orders.following_sets.Goals as goal

pub loop-left-preserved : goal.loop-left-preserved
loop-left-preserved c = one_more c.args.needs.now c.args.count c.loop-left.table.items c.loop-left.left c.can_follow-can.result c.push.new.self.items
    c.loop-left.invariant c.can_follow-can.ensures c.in_ok-push.ensures.items
