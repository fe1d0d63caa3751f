use Rattle.clr_clearance.proofs.StaticLemmas.{number_law}
use Rattle.clr_clearance.proofs.laws.numbers_stand_for_names.Goals as goal

pub returns : goal.returns
returns c = number_law
