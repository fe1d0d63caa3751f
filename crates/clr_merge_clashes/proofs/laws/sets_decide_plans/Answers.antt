use Rattle.clr_merge_clashes.proofs.SetLaws.{sets_decided}
use Rattle.clr_merge_clashes.proofs.laws.sets_decide_plans.Goals as goal

pub returns : goal.returns
returns c = sets_decided c.clashes_decide_subsets.ensures c.listed_clashes_decide_subsets.ensures
