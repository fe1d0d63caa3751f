use Rattle.std.specs.List.{AllByRecursion}
use Rattle.clr_engine_tests.specs.Parts.{SavesNoRows}
use Rattle.clr_engine_tests.proofs.builds.child_marks.Given as goal

abbrev pub invariant-loop-child : goal.invariant-loop-child
invariant-loop-child l = AllByRecursion SavesNoRows l.marks.items
