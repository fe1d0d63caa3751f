use Rattle.std.proofs.Common.{◌≡◌, take}
use Rattle.csv.specs.Records.{fields_of}
use Rattle.clr_layer_faults.proofs.header_faults.names_of.Given as goal

-- the fields so far
abbrev pub invariant-loop-at : goal.invariant-loop-at
invariant-loop-at l = l.names.items ≡ take l.at (fields_of l.header)
