use Rattle.clr_ordered_clearance.proofs.OrderLemmas.{broken_order, uncovered_order}
use Rattle.clr_ordered_clearance.proofs.laws.orders_that_break_a_need_are_refused.Goals as goal

pub returns : goal.returns
returns c = record { broken = broken_order; uncovered = uncovered_order }
