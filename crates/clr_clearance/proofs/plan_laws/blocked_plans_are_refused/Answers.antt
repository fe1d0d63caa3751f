use Rattle.clr_clearance.proofs.PlanLemmas.{blocked_plan}
use Rattle.clr_clearance.proofs.plan_laws.blocked_plans_are_refused.Goals as goal

pub returns : goal.returns
returns c = blocked_plan
