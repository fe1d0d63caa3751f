use Rattle.clr_rules.proofs.CrossingLemmas.{crossing_subjects}
use Rattle.clr_rules.proofs.laws.crossing_subjects_have_common_points.Goals as goal

pub returns : goal.returns
returns c = crossing_subjects
