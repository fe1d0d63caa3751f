use Rattle.std.proofs.Common.{◌≡◌}
use Rattle.std.specs.FinMap as finite
use Rattle.clr_grid.specs.Finders.{spots_after}
use Rattle.clr_grid.proofs.Noting.{AreLeft}
use Rattle.clr_grid.proofs.finders.note_changes.Given as goal

abbrev pub invariant-loop-cell : goal.invariant-loop-cell
invariant-loop-cell l = record {
  settled : l.finder.settled ≡ l.fn.finder.settled;
  left : AreLeft (spots_after l.book) (finite.entries l.changed) l.cell-iterator l.finder.pending;
}
