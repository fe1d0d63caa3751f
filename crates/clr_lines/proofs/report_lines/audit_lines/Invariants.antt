use Rattle.std.proofs.Common.{◌≡◌, ◌++◌, codes, length, take}
use Rattle.std.specs.List.{flat_map}
use Rattle.clr_lines.specs.Reports.{count_line, need_line}
use Rattle.clr_lines.proofs.report_lines.audit_lines.Given as goal

-- the first line, and those of the needs so far
abbrev pub invariant-loop-need : goal.invariant-loop-need
invariant-loop-need l = l.lines.items ≡ count_line (codes "broken") (length l.needs) ++ flat_map (need_line l.schema) (take l.need-index l.needs)
