use Rattle.clr_merge_orders.proofs.FoundOrders.{found_is_cleared}
use Rattle.clr_merge_orders.proofs.laws.found_orders_are_cleared.Goals as goal

pub returns : goal.returns
returns c = found_is_cleared
