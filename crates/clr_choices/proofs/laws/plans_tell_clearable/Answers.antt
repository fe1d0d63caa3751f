use Rattle.clr_choices.proofs.ClearableLaws.{plans_tell}
use Rattle.clr_choices.proofs.laws.plans_tell_clearable.Goals as goal

pub returns : goal.returns
returns c = plans_tell
