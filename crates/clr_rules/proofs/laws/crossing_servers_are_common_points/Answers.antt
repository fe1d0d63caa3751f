use Rattle.clr_rules.proofs.CrossingLemmas.{crossing_servers}
use Rattle.clr_rules.proofs.laws.crossing_servers_are_common_points.Goals as goal

pub returns : goal.returns
returns c = crossing_servers
