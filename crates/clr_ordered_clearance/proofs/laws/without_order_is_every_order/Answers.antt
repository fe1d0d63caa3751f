use Rattle.clr_ordered_clearance.proofs.NumberLemmas.{every_order}
use Rattle.clr_ordered_clearance.proofs.laws.without_order_is_every_order.Goals as goal

pub returns : goal.returns
returns c = every_order
