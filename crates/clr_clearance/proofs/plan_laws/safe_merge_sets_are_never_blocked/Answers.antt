use Rattle.clr_clearance.proofs.PlanLemmas.{safe_order, safe_plan}
use Rattle.clr_clearance.proofs.plan_laws.safe_merge_sets_are_never_blocked.Goals as goal

pub returns : goal.returns
returns c = record { order = safe_order; plan = safe_plan }
