use Rattle.std.proofs.Common.{◌≡◌, ◌++◌, codes, length, take}
use Rattle.std.specs.List.{flat_map}
use Rattle.clr_lines.specs.Reports.{count_line, cell_line}
use Rattle.clr_lines.proofs.report_lines.conflicts_lines.Given as goal

-- the first line, and those of the cells so far
abbrev pub invariant-loop-cell : goal.invariant-loop-cell
invariant-loop-cell l = l.lines.items ≡ count_line (codes "conflicts") (length l.cells) ++ flat_map (cell_line l.schema) (take l.cell-index l.cells)
