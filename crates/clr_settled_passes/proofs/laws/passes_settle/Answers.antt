use Rattle.clr_settled_passes.proofs.SettlingLaws.{three_passes, two_passes}
use Rattle.clr_settled_passes.proofs.laws.passes_settle.Goals as goal

pub returns : goal.returns
returns k = record {
  three = λ aim c list start first second third are part one two three. three_passes aim c list are start first second third part one two three;
  two = λ aim c list start first second are part changed one two. two_passes aim c list are start first second part changed one two;
}
