use Rattle.std.proofs.Common.{map}
use Rattle.std.specs.Vec.Iter.{into_iter_items}
use Rattle.clr_deltas.specs.NamedDeltas.{stored_delta}
use Rattle.clr_workspace_parts.specs.Parts.{spaces_of}
use Rattle.clr_workspace_parts.proofs.DeltaLemmas.{ArePushed}
use Rattle.clr_workspace_parts.proofs.delta_builds.push_deltas.Given as goal

-- the parts so far stand, and none of them has a fault
abbrev pub invariant-loop-part : goal.invariant-loop-part
invariant-loop-part l = ArePushed l.live (spaces_of l.live l.fn.parts.items) l.map (map stored_delta (into_iter_items l.part-iterator))
