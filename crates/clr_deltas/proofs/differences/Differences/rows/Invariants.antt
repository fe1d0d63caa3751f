use Rattle.std.proofs.Common.{◌≡◌, ◌++◌}
use Rattle.std.specs.FinMap as finite
use Rattle.clr_deltas.proofs.differences.Differences.rows.Given as goal

-- the rows so far and those that are left are all
abbrev pub invariant-loop-cell : goal.invariant-loop-cell
invariant-loop-cell l = l.rows.items ++ l.cell-iterator ≡ finite.entries l.self
