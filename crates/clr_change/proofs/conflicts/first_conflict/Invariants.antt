use Rattle.std.proofs.Common.{◌≡◌, ◌≤◌, ◌+◌, length, map, filter}
use Rattle.std.specs.FinMap as finite
use Rattle.clr_rows.specs.Contents.{conflicts, is_conflict, least_and_count}
use Rattle.clr_change.proofs.ConflictLemmas.{joined, count_of}
use Rattle.clr_change.proofs.conflicts.first_conflict.Given as goal

-- the conflicts so far, with those of the changes that are left, are all of them
abbrev pub invariant-loop-cell : goal.invariant-loop-cell
invariant-loop-cell g l = record {
  so_far : joined l.first (map (λ e. e.0) (filter (is_conflict (g.V.RowView.content l.parent)) l.cell-iterator))
      ≡ least_and_count (conflicts (g.V.RowView.content l.parent) l.changes);
  fits : count_of l.first + length l.cell-iterator ≤ length (finite.entries l.changes);
}
