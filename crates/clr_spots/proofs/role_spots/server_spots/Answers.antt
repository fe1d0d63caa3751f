use Rattle.clr_rules.proofs.FittingLemmas.{first_sound}
use Rattle.clr_spots.proofs.role_spots.server_spots.Goals as goal

pub server_spots_by_rule-requires : goal.server_spots_by_rule-requires
server_spots_by_rule-requires c = first_sound _ _ _ c.requires.fit
