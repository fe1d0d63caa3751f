use Rattle.clr_clashes.proofs.ListedLaws.{listed_clashes_decide}
use Rattle.clr_clashes.proofs.laws.listed_clashes_decide_subsets.Goals as goal

pub returns : goal.returns
returns c = listed_clashes_decide
