use Rattle.std.proofs.Common.{◌≡◌, ◌<◌, length}
use Rattle.clr_rows.specs.Contents.{row_at}
use Rattle.clr_deltas.specs.Deltas.{wholes}
use Rattle.clr_workspaces.specs.Workspaces.{workspace_at}
use Rattle.clr_contents.proofs.reads.row_of.Given as goal

-- the row is the one seen at the start
abbrev pub invariant-loop-at : goal.invariant-loop-at
invariant-loop-at l = record {
  within : l.at < length l.map;
  same : row_at (workspace_at (wholes l.live l.map) l.at).current l.cell ≡ row_at (workspace_at (wholes l.live l.map) l.fn.at).current l.cell;
}

abbrev pub decreases-loop-at : goal.decreases-loop-at
decreases-loop-at l = l.at
