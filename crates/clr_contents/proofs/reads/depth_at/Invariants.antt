use Rattle.std.proofs.Common.{◌≡◌, ◌+◌, ◌<◌, ◌≤◌, length}
use Rattle.clr_deltas.specs.Deltas.{wholes}
use Rattle.clr_workspaces.specs.Workspaces.{depth_of}
use Rattle.clr_contents.proofs.reads.depth_at.Given as goal

abbrev pub invariant-loop-at : goal.invariant-loop-at
invariant-loop-at l = record {
  within : l.at < length l.map;
  few : l.count + l.at ≤ l.fn.at;
  rest : l.count + depth_of (wholes l.live l.map) l.at ≡ depth_of (wholes l.live l.map) l.fn.at;
}

abbrev pub decreases-loop-at : goal.decreases-loop-at
decreases-loop-at l = l.at
