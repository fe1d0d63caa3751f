use Rattle.std.proofs.Common.{◌≡◌}
use Rattle.std.specs.FinMap as finite
use Rattle.clr_tips.specs.Keys.{greatest_of}
use Rattle.clr_tips.proofs.keys.greatest_changed.Given as goal

-- the greatest so far, with the keys of the cells that are left, is the greatest of all
abbrev pub invariant-loop-cell : goal.invariant-loop-cell
invariant-loop-cell l = greatest_of l.table l.greatest l.cell-iterator ≡ greatest_of l.table l.key (finite.entries l.set)
