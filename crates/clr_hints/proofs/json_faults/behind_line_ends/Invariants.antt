use Rattle.std.proofs.Common.{◌≡◌, ◌-◌, ◌≤◌, length}
use Rattle.clr_hints.specs.JsonFaults.{behind_line_ends}
use Rattle.clr_hints.proofs.json_faults.behind_line_ends.Given as goal

-- what is left stands behind the line ends that are passed
abbrev pub invariant-loop-passed : goal.invariant-loop-passed
invariant-loop-passed l = (behind_line_ends (l.count - l._passed) l.rest ≡ behind_line_ends l.count l.text) × (length l.rest ≤ length l.text)
