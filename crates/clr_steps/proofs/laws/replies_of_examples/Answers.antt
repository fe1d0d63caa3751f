use Rattle.clr_steps.proofs.ExampleLemmas.{names, savepoints, rolls, levels}
use Rattle.clr_steps.proofs.laws.replies_of_examples.Goals as goal

pub returns : goal.returns
returns c = record { names = names; savepoints = savepoints; rolls = rolls; levels = levels }
