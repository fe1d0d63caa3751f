use Rattle.std.proofs.Common.{◌≡◌}
use Rattle.std.specs.FinMap as finite
use Rattle.clr_finder_tests.proofs.changes.follows_changes.Given as goal

abbrev pub invariant-loop-step : goal.invariant-loop-step
invariant-loop-step g l = g.F.RowFinder.pending l.finder ≡ finite.empty
