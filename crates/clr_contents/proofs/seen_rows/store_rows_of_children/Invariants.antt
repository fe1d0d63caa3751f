use Rattle.std.proofs.Common.{◌≡◌, ◌<◌, ℕ}
use Rattle.clr_deltas.specs.Differences.{HasDifferences}
use Rattle.clr_deltas.specs.Deltas.{wholes, delta_at, IsUnder}
use Rattle.clr_contents.specs.SeenRows.{Extends, StayOwnButChildren}
use Rattle.clr_contents.proofs.seen_rows.store_rows_of_children.Given as goal

abbrev pub invariant-loop-k : goal.invariant-loop-k
invariant-loop-k l = record {
  seen : wholes l.live l.map ≡ wholes l.live l.fn.map;
  extends : Extends l.fn.map l.map;
  elsewhere : StayOwnButChildren (delta_at l.fn.map l.at).name l.cells l.fn.map l.map;
  is_stored : (j : ℕ) → 0 < j → j < l.k → IsUnder (delta_at l.fn.map l.at).name (delta_at l.map j) → HasDifferences (delta_at l.map j).base l.cells;
}
