use Rattle.std.proofs.Common.{◌≡◌, map, take}
use Rattle.clr_deltas.specs.Deltas.{wholes, whole_mark, delta_at}
use Rattle.clr_workspaces.specs.Workspaces.{workspace_at}
use Rattle.clr_workspace_parts.specs.Parts.{marks_of}
use Rattle.clr_workspace_parts.proofs.part_reads.mark_parts.Given as goal

abbrev pub invariant-loop-mark : goal.invariant-loop-mark
invariant-loop-mark l = marks_of l.parts.items ≡ map (whole_mark (workspace_at (wholes l.live l.map) l.at).base) (take l.mark-index (delta_at l.map l.at).marks)
