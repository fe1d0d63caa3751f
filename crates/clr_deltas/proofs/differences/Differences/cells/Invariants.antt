use Rattle.std.proofs.Common.{◌≡◌, ◌++◌, map}
use Rattle.std.specs.FinMap as finite
use Rattle.clr_deltas.proofs.differences.Differences.cells.Given as goal

-- the cells so far and those that are left are all
abbrev pub invariant-loop-cell : goal.invariant-loop-cell
invariant-loop-cell l = l.cells.items ++ map (λ e. e.0) l.cell-iterator ≡ finite.keys l.self
