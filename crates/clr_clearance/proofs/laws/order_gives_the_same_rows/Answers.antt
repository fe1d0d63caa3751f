use Rattle.clr_clearance.proofs.MergeSetLemmas.{order_law}
use Rattle.clr_clearance.proofs.laws.order_gives_the_same_rows.Goals as goal

pub returns : goal.returns
returns c = order_law
