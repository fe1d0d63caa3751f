use Rattle.std.proofs.Common.{◌≡◌, true, take}
use Rattle.std.specs.List.{list_all}
use Rattle.clr_deltas.specs.Deltas.{wholes}
use Rattle.clr_workspace_parts.specs.Parts.{bare_marks, is_marked_once}
use Rattle.clr_workspace_parts.proofs.part_checks.are_marked_once.Given as goal

abbrev pub invariant-loop-at : goal.invariant-loop-at
invariant-loop-at l = list_all (is_marked_once l.parent (bare_marks l.marks)) (take l.at (wholes l.live l.map)) ≡ true
