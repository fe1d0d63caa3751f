use Rattle.clr_clearance.proofs.ClearLemmas.{clear_law}
use Rattle.clr_clearance.proofs.VerdictLemmas.{one_verdict}
use Rattle.clr_clearance.proofs.laws.clear_is_covered.Goals as goal

pub returns : goal.returns
returns c = record { clear = clear_law; one = one_verdict }
