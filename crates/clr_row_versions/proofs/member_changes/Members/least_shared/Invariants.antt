use Rattle.clr_row_versions.proofs.Searches.{sets_of}
use Rattle.clr_row_versions.proofs.SharedCells.{IsLeastBelow}
use Rattle.clr_row_versions.proofs.member_changes.Members.least_shared.Given as goal

-- the least among the cells so far
abbrev pub invariant-loop-cell : goal.invariant-loop-cell
invariant-loop-cell l = IsLeastBelow (sets_of l.self.sets.items) l.self.cells.items l.cell-index l.least
