use Rattle.clr_plan.proofs.ReadableLaws.{readable}
use Rattle.clr_plan.proofs.laws.cleared_plans_are_readable.Goals as goal

pub returns : goal.returns
returns c = readable
