use Rattle.std.specs.FinMap as finite
use Rattle.clr_row_versions.proofs.ChangedCells.{AreReadTo}
use Rattle.clr_row_versions.proofs.member_changes.add_cells.Given as goal

-- the cells so far stand behind the list, and those of the changes that are left follow
abbrev pub invariant-loop-cell : goal.invariant-loop-cell
invariant-loop-cell l = AreReadTo l.fn.cells.items (finite.keys l.set) l.cells.items l.cell-iterator
