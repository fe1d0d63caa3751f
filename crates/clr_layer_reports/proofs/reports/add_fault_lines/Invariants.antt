use Rattle.std.proofs.Common.{◌≡◌, ◌++◌, map, take}
use Rattle.std.specs.List.{flat_map}
use Rattle.csv.specs.Records.{fields_of}
use Rattle.clr_layer_reports.specs.Reports.{fault_line}
use Rattle.clr_layer_reports.proofs.reports.add_fault_lines.Given as goal

-- the lines of the faults so far are added
abbrev pub invariant-loop-found : goal.invariant-loop-found
invariant-loop-found l = l.lines.items
    ≡ l.initial.lines.items ++ flat_map (fault_line l.file l.bytes l.table (map fields_of l.records) l.near) (take l.found-index l.faults)
