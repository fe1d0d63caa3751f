use Rattle.clr_cuts.proofs.DependenceLaws.{same_dependent}
use Rattle.clr_cuts.proofs.TiedLaws.{has_involved}
use Rattle.clr_cuts.proofs.laws.tied_rows_tell_dependence.Goals as goal

pub returns : goal.returns
returns c = record {
  tied = λ s rows changed tied. has_involved s rows changed tied;
  dependent = λ s rows part changed involved. same_dependent s rows part changed involved;
}
