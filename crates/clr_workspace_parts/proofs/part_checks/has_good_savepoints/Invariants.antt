use Rattle.std.proofs.Common.{◌≡◌, drop}
use Rattle.clr_workspace_parts.specs.Parts.{bare_marks}
use Rattle.clr_workspace_parts.proofs.PartLemmas.{are_new}
use Rattle.clr_workspace_parts.proofs.part_checks.has_good_savepoints.Given as goal

-- what stands before has new names
abbrev pub invariant-loop-i : goal.invariant-loop-i
invariant-loop-i l = are_new (bare_marks (drop l.i l.marks)) ≡ are_new (bare_marks l.marks)
