use Rattle.clr_office.proofs.OneInOrder.{one_in_order}
use Rattle.clr_office.proofs.laws.plans_in_order_are_alike.Goals as goal

pub returns : goal.returns
returns c = one_in_order
