use Rattle.clr_ordered_clearance.proofs.LastingLemmas.{lasting_in_turn}
use Rattle.clr_ordered_clearance.proofs.laws.clearances_in_turn_last.Goals as goal

pub returns : goal.returns
returns c = lasting_in_turn
