use Rattle.clr_ordered_clearance.proofs.NumberLemmas.{number_in_turn}
use Rattle.clr_ordered_clearance.proofs.laws.numbers_stand_for_names_in_turn.Goals as goal

pub returns : goal.returns
returns c = number_in_turn
