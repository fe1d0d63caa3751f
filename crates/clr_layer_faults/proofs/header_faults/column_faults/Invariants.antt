use Rattle.std.proofs.Common.{◌≡◌}
use Rattle.std.specs.List.{filter_map, range_with_len}
use Rattle.clr_layer_faults.specs.FoundFaults.{header_fault}
use Rattle.clr_layer_faults.proofs.header_faults.column_faults.Given as goal

-- the faults of the columns so far
abbrev pub invariant-loop-column : goal.invariant-loop-column
invariant-loop-column l = l.found.items ≡ filter_map (header_fault l.table l.names) (range_with_len 0 l.column)
