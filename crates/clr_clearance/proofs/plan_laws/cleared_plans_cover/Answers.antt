use Rattle.clr_clearance.proofs.PlanLemmas.{cleared_plan, cleared_safe}
use Rattle.clr_clearance.proofs.plan_laws.cleared_plans_cover.Goals as goal

pub returns : goal.returns
returns c = record { covers = cleared_plan; safe = cleared_safe }
