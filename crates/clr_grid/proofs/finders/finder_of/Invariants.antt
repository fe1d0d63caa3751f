use Rattle.std.proofs.Common.{◌≡◌}
use Rattle.std.specs.FinMap as finite
use Rattle.clr_grid.proofs.Indexes.{row_kept}
use Rattle.clr_grid.proofs.Noting.{AreLeft}
use Rattle.clr_grid.proofs.finders.finder_of.Given as goal

-- the rows so far are settled, and nothing is pending
abbrev pub invariant-loop-cell : goal.invariant-loop-cell
invariant-loop-cell l = record {
  pending : l.finder.pending ≡ finite.empty;
  left : AreLeft (row_kept l.book) (finite.entries l.rows) l.cell-iterator l.finder.settled;
}
