use Rattle.clr_merge_clashes.proofs.PlanLaw.{plans_decided}
use Rattle.clr_merge_clashes.proofs.laws.clashes_decide_plans.Goals as goal

pub returns : goal.returns
returns c = plans_decided c.listed_clashes_decide_subsets.ensures
