use Rattle.clr_ordered_needs.proofs.EmptyOrder.{no_order_is_every_order}
use Rattle.clr_ordered_needs.proofs.laws.no_order_is_every_order.Goals as goal

pub returns : goal.returns
returns g c = λ s. no_order_is_every_order s
