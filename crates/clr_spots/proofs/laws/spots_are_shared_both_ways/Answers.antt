use Rattle.clr_spots.proofs.SharedSpots.{share_back}
use Rattle.clr_spots.proofs.laws.spots_are_shared_both_ways.Goals as goal

pub returns : goal.returns
returns c = share_back
