use Rattle.std.proofs.Common.{◌≡◌}
use Rattle.std.specs.Vec.Iter.{into_iter_items}
use Rattle.clr_deltas.specs.Differences.{put_each, no_differences}
use Rattle.clr_deltas.proofs.differences.Differences.of_rows.Given as goal

-- the rows that are left, put over those so far, make the whole
abbrev pub invariant-loop-cell : goal.invariant-loop-cell
invariant-loop-cell l = put_each l.differences (into_iter_items l.cell-iterator) ≡ put_each no_differences l.fn.rows.items
