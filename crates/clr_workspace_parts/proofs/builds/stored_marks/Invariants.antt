use Rattle.std.proofs.Common.{◌≡◌, map, take}
use Rattle.clr_deltas.specs.Deltas.{whole_mark}
use Rattle.clr_workspace_parts.specs.Parts.{marks_of}
use Rattle.clr_workspace_parts.proofs.builds.stored_marks.Given as goal

abbrev pub invariant-loop-mark : goal.invariant-loop-mark
invariant-loop-mark l = map (whole_mark l.base) l.stored.items ≡ marks_of (take l.mark-index l.marks)
