use Rattle.clr_choices.proofs.ClearableLaws.{parts_stay}
use Rattle.clr_choices.proofs.laws.parts_stay_clearable.Goals as goal

pub returns : goal.returns
returns c = parts_stay
