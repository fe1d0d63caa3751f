use Rattle.clr_reach.proofs.FoundLaws.{found_for_groups, reach_found}
use Rattle.clr_reach.proofs.laws.rows_in_reach_are_found.Goals as goal

pub returns : goal.returns
returns c = record { plans = λ s row fits it. reach_found s fits row it; groups = λ s row fits it. found_for_groups s fits row it }
