use Rattle.std.proofs.Common.{◌≡◌, ◌++◌}
use Rattle.std.specs.List.{flat_map}
use Rattle.clr_lines.specs.Reports.{change_line, changes_text}
use Rattle.clr_lines.proofs.report_lines.changes_lines.Given as goal

-- the lines so far, with those of the changes that are left, are all the lines
abbrev pub invariant-loop-cell : goal.invariant-loop-cell
invariant-loop-cell l = l.lines.items ++ flat_map (change_line l.schema) l.cell-iterator ≡ changes_text l.schema l.changes
