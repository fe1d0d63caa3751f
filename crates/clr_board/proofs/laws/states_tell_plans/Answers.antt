use Rattle.clr_board.proofs.StateLaws.{states_tell}
use Rattle.clr_board.proofs.laws.states_tell_plans.Goals as goal

pub returns : goal.returns
returns c = states_tell
