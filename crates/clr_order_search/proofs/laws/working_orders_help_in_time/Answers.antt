use Rattle.clr_order_search.proofs.Helps.{helps}
use Rattle.clr_order_search.proofs.laws.working_orders_help_in_time.Goals as goal

pub returns : goal.returns
returns c = helps
