use Rattle.clr_ordered_clearance.proofs.VerdictLemmas.{one_verdict_in_turn}
use Rattle.clr_ordered_clearance.proofs.verdict_laws.verdicts_in_turn_are_one.Goals as goal

pub returns : goal.returns
returns c = one_verdict_in_turn
