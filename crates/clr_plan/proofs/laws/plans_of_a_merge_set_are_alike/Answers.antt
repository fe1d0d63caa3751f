use Rattle.clr_plan.proofs.OnePlanLemmas.{one_plan}
use Rattle.clr_plan.proofs.laws.plans_of_a_merge_set_are_alike.Goals as goal

pub returns : goal.returns
returns c = one_plan
