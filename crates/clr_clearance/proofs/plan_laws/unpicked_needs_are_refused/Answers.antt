use Rattle.clr_clearance.proofs.RefusedLemmas.{unpicked_is_refused}
use Rattle.clr_clearance.proofs.plan_laws.unpicked_needs_are_refused.Goals as goal

pub returns : goal.returns
returns c = unpicked_is_refused
