use Rattle.std.proofs.Common.{◌≡◌, ◌++◌, take}
use Rattle.std.specs.List.{flat_map}
use Rattle.clr_layer_reports.specs.Reports.{kind_line}
use Rattle.clr_layer_reports.proofs.counts.add_kind_lines.Given as goal

-- the lines of the kinds so far are added
abbrev pub invariant-loop-found : goal.invariant-loop-found
invariant-loop-found l = l.lines.items ≡ l.initial.lines.items ++ flat_map (kind_line l.file l.table l.faults) (take l.found-index l.kinds)
