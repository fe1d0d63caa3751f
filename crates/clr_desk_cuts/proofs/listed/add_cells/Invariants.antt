use Rattle.std.proofs.Common.{◌≡◌}
use Rattle.std.specs.FinMap as finite
use Rattle.clr_desk_cuts.specs.Listed.{with_entries}
use Rattle.clr_desk_cuts.proofs.listed.add_cells.Given as goal

-- the cells so far, with those that are left, are all of them
abbrev pub invariant-loop-cell : goal.invariant-loop-cell
invariant-loop-cell l = with_entries l.cells l.cell-iterator ≡ with_entries l.initial.cells (finite.entries l.differences)
