use Rattle.clr_ordered_needs.proofs.OrderedPositions.{positions_say_the_same}
use Rattle.clr_ordered_needs.proofs.laws.positions_stand_for_names_in_turn.Goals as goal

pub returns : goal.returns
returns g c = λ before s. positions_say_the_same before s
