use Rattle.std.proofs.Common.{◌≡◌, drop, map}
use Rattle.clr_deltas.specs.NamedDeltas.{stored_delta}
use Rattle.clr_desk_cuts.specs.Listed.{with_deltas}
use Rattle.clr_desk_cuts.proofs.listed.add_workspaces.Given as goal

-- the cells so far, with those of the workspaces that are left, are all of them
abbrev pub invariant-loop-workspace : goal.invariant-loop-workspace
invariant-loop-workspace l = with_deltas l.cells (map stored_delta (drop l.workspace-index l.workspaces))
    ≡ with_deltas l.initial.cells (map stored_delta l.workspaces)
