use Rattle.clr_ordered_clearance.proofs.SafeLemmas.{safe_in_turn}
use Rattle.clr_ordered_clearance.proofs.laws.merge_sets_covered_in_turn_are_safe.Goals as goal

pub returns : goal.returns
returns c = safe_in_turn
