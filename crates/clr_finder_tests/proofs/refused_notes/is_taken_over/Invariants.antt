use Rattle.std.proofs.Common.{◌≡◌}
use Rattle.std.specs.FinMap as finite
use Rattle.clr_finder_tests.proofs.refused_notes.is_taken_over.Given as goal

abbrev pub invariant-loop-budget : goal.invariant-loop-budget
invariant-loop-budget g l = g.F.RowFinder.pending l.finder ≡ finite.empty
