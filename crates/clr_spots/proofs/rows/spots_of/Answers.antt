use Rattle.clr_rules.proofs.FittingLemmas.{distance_fits, first_sound}
use Rattle.clr_spots.proofs.rows.spots_of.Goals as goal

pub spots_by_rule-requires-clause-distance : goal.spots_by_rule-requires-clause-distance
spots_by_rule-requires-clause-distance c = distance_fits _ _ _ c.rule.result.now c.requires.fit c.rule.ensures

pub spots_by_rule-requires-clause-sound : goal.spots_by_rule-requires-clause-sound
spots_by_rule-requires-clause-sound c = first_sound _ _ _ c.requires.fit
