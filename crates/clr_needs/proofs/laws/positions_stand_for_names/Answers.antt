use Rattle.clr_needs.proofs.PositionLaws.{say_the_same}
use Rattle.clr_needs.proofs.laws.positions_stand_for_names.Goals as goal

pub returns : goal.returns
returns g c s = say_the_same s
