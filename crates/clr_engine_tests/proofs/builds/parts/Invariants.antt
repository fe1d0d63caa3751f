use Rattle.std.specs.List.{AllByRecursion}
use Rattle.clr_engine_tests.specs.Parts.{HasNoRows}
use Rattle.clr_engine_tests.proofs.builds.parts.Given as goal

abbrev pub invariant-loop-outline : goal.invariant-loop-outline
invariant-loop-outline l = AllByRecursion HasNoRows l.parts.items
