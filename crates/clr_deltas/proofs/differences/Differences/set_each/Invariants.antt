use Rattle.std.proofs.Common.{◌≡◌}
use Rattle.std.specs.Vec.Iter.{into_iter_items}
use Rattle.clr_deltas.specs.Differences.{put_each, cells_in, HasDifferences}
use Rattle.clr_deltas.proofs.differences.Differences.set_each.Given as goal

abbrev pub invariant-loop-cell : goal.invariant-loop-cell
invariant-loop-cell l = record {
  so_far : put_each l.self (into_iter_items l.cell-iterator) ≡ put_each l.fn.self l.fn.rows.items;
  is_stored : HasDifferences l.self (cells_in (into_iter_items l.cell-iterator));
}
