use Rattle.std.specs.List.{AllByRecursion}
use Rattle.clr_engine_tests.specs.Parts.{SavesNoRows}
use Rattle.clr_engine_tests.proofs.builds.marks.Given as goal

abbrev pub invariant-loop-name : goal.invariant-loop-name
invariant-loop-name l = AllByRecursion SavesNoRows l.marks.items
