use Rattle.clr_cuts.proofs.OtherLaws.{none_dependent}
use Rattle.clr_cuts.proofs.laws.members_beside_a_cut_are_independent.Goals as goal

pub returns : goal.returns
returns c = λ s rows chosen cut x y is other. none_dependent s rows chosen cut x y is other
