use Rattle.clr_ordered_clearance.proofs.ClearedLemmas.{cleared_in_turn}
use Rattle.clr_ordered_clearance.proofs.VerdictLemmas.{clear_in_turn}
use Rattle.clr_ordered_clearance.proofs.verdict_laws.clear_verdicts_in_turn_promise_all.Goals as goal

pub returns : goal.returns
returns c = record { clear = clear_in_turn; cleared = cleared_in_turn }
