use Rattle.clr_ordered_needs.proofs.Sequences.{merges_in_list_are_told}
use Rattle.clr_ordered_needs.proofs.laws.merges_in_a_list_are_told.Goals as goal

pub returns : goal.returns
returns g c = λ s. merges_in_list_are_told s
