use Rattle.std.proofs.Common.{rules}
use Rattle.clr_desk_plans.proofs.in_order.answer_in_order.Goals as goal

pub returns-in-Keep : goal.returns-in-Keep
returns-in-Keep c = rw (c.in-Keep.is) c.answer_keep_in_order.ensures
