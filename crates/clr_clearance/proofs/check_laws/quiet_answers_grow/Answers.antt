use Rattle.clr_clearance.proofs.CheckLemmas.{one_more}
use Rattle.clr_clearance.proofs.check_laws.quiet_answers_grow.Goals as goal

pub returns : goal.returns
returns c = one_more
