use Rattle.std.proofs.Common.{◌≡◌, take}
use Rattle.clr_deltas.specs.Differences.{HasDifferences}
use Rattle.clr_deltas.specs.Deltas.{wholes, delta_at}
use Rattle.clr_contents.specs.SeenRows.{Extends, StayOwnBut}
use Rattle.clr_contents.proofs.seen_rows.store_current_rows.Given as goal

abbrev pub invariant-loop-cell : goal.invariant-loop-cell
invariant-loop-cell l = record {
  seen : wholes l.live l.map ≡ wholes l.live l.fn.map;
  extends : Extends l.fn.map l.map;
  elsewhere : StayOwnBut l.at l.cells l.fn.map l.map;
  is_stored : HasDifferences (delta_at l.map l.at).current (take l.cell-index l.cells);
}
