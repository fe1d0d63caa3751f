use Rattle.clr_clashes.proofs.ClashLaws.{clashes_decide}
use Rattle.clr_clashes.proofs.laws.clashes_decide_subsets.Goals as goal

pub returns : goal.returns
returns c = clashes_decide
