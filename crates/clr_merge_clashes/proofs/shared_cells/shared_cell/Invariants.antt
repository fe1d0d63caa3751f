use Rattle.std.proofs.Common.{◌≡◌}
use Rattle.clr_merge_clashes.specs.SharedCells.{shared_cell}
use Rattle.clr_merge_clashes.proofs.Sharing.{shared_with}
use Rattle.clr_merge_clashes.proofs.shared_cells.shared_cell.Given as goal

-- none of the cells so far is shared
abbrev pub invariant-loop-cell : goal.invariant-loop-cell
invariant-loop-cell l = shared_with l.second l.cell-iterator ≡ shared_cell l.first l.second
