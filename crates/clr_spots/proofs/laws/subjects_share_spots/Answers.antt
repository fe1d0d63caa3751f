use Rattle.clr_spots.proofs.ShareLaws.{subjects_share}
use Rattle.clr_spots.proofs.laws.subjects_share_spots.Goals as goal

pub returns : goal.returns
returns c = subjects_share
