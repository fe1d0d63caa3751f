use Rattle.clr_ordered_clearance.proofs.SafeLemmas.{covered_in_turn, held_in_turn}
use Rattle.clr_ordered_clearance.proofs.laws.members_covered_in_turn_stay_free.Goals as goal

pub returns : goal.returns
returns c = record { free = covered_in_turn; held = held_in_turn }
