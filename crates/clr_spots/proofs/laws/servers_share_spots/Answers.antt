use Rattle.clr_spots.proofs.ShareLaws.{servers_share}
use Rattle.clr_spots.proofs.laws.servers_share_spots.Goals as goal

pub returns : goal.returns
returns c = servers_share
