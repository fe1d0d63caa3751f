use Rattle.std.proofs.Common.{◌≡◌, ◌++◌, length, take}
use Rattle.std.specs.Prelude.{codes}
use Rattle.std.specs.List.{flat_map}
use Rattle.clr_lines.specs.Reports.{count_line, need_line}
use Rattle.clr_desk_errors.proofs.mended.mended_lines.Given as goal

-- how many there are, and those so far
abbrev pub invariant-loop-need : goal.invariant-loop-need
invariant-loop-need l = l.lines.items ≡ count_line (codes "mended") (length l.needs) ++ flat_map (need_line l.schema) (take l.need-index l.needs)
