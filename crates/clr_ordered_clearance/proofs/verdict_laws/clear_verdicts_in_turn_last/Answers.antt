use Rattle.clr_ordered_clearance.proofs.LastingVerdicts.{clear_lasts_in_turn}
use Rattle.clr_ordered_clearance.proofs.verdict_laws.clear_verdicts_in_turn_last.Goals as goal

pub returns : goal.returns
returns c = clear_lasts_in_turn
