use Rattle.std.proofs.Common.{◌≡◌, ◌++◌}
use Rattle.clr_needs.specs.Members.{changed_cells}
use Rattle.clr_row_versions.proofs.ChangedCells.{cells_left}
use Rattle.clr_row_versions.proofs.Searches.{sets_of}
use Rattle.clr_row_versions.proofs.member_changes.changed_cells.Given as goal

-- the cells so far, with those of the sets that are left, are all of them
abbrev pub invariant-loop-set : goal.invariant-loop-set
invariant-loop-set l = l.cells.items ++ cells_left l.sets l.set-index ≡ changed_cells (sets_of l.sets)
