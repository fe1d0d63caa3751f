use Rattle.clr_ordered_clearance.proofs.RunLemmas.{cleared_run_in_turn, one_more_in_turn}
use Rattle.clr_ordered_clearance.proofs.laws.runs_in_turn_are_cleared.Goals as goal

pub returns : goal.returns
returns c = record { cleared = cleared_run_in_turn; more = one_more_in_turn }
