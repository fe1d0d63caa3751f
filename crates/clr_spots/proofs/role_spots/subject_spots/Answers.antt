use Rattle.clr_rules.proofs.FittingLemmas.{distance_fits, first_sound}
use Rattle.clr_spots.proofs.role_spots.subject_spots.Goals as goal

pub subject_spots_by_rule-requires-clause-distance : goal.subject_spots_by_rule-requires-clause-distance
subject_spots_by_rule-requires-clause-distance c = distance_fits _ _ _ c.rule.result.now c.requires.fit c.rule.ensures

pub subject_spots_by_rule-requires-clause-sound : goal.subject_spots_by_rule-requires-clause-sound
subject_spots_by_rule-requires-clause-sound c = first_sound _ _ _ c.requires.fit
