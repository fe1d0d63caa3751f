use Rattle.clr_ordered_needs.proofs.StateLaws.{states_are_told}
use Rattle.clr_ordered_needs.proofs.laws.open_needs_tell_states.Goals as goal

pub returns : goal.returns
returns g c = λ s. states_are_told s
