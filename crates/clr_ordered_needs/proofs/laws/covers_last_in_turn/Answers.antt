use Rattle.clr_ordered_needs.proofs.CarriedCovers.{covers_last}
use Rattle.clr_ordered_needs.proofs.laws.covers_last_in_turn.Goals as goal

pub returns : goal.returns
returns g c = λ before s now_before next fate. covers_last before s now_before next fate
