use Rattle.clr_order_search.proofs.Circles.{trailing, waiting}
use Rattle.clr_order_search.proofs.laws.circles_of_members_have_no_order.Goals as goal

pub returns : goal.returns
returns c = record { waiting = waiting; trailing = trailing }
