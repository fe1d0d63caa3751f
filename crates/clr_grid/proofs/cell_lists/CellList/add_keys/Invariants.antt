use Rattle.std.proofs.Common.{◌≡◌}
use Rattle.clr_grid.specs.CellSets.{with_listed_cells}
use Rattle.clr_grid.proofs.GainLemmas.{IsAddedTo}
use Rattle.clr_grid.proofs.cell_lists.CellList.add_keys.Given as goal

-- the rest added makes the whole, and the cells so far are added
abbrev pub invariant-loop-cell : goal.invariant-loop-cell
invariant-loop-cell l = record {
  whole : with_listed_cells l.self l.cell-iterator ≡ with_listed_cells l.fn.self l.initial.cell-iterator;
  so_far : IsAddedTo l.fn.self l.initial.cell-iterator l.self l.cell-iterator;
}
