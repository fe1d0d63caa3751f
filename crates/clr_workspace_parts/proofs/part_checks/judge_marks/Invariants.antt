use Rattle.std.proofs.Common.{◌≡◌, ◌-◌, ◌<◌, ◌≤◌, length, None}
use Rattle.clr_deltas.specs.Deltas.{wholes}
use Rattle.clr_workspace_parts.specs.Parts.{marks_fault_at, first_below}
use Rattle.clr_workspace_parts.proofs.part_checks.judge_marks.Given as goal

-- the workspaces so far have good marks
abbrev pub invariant-loop-at : goal.invariant-loop-at
invariant-loop-at l = record {
  later : 0 < l.at;
  within : l.at - 1 ≤ length l.map - 1;
  clear : first_below (marks_fault_at (wholes l.live l.map)) (l.at - 1) ≡ None;
}
