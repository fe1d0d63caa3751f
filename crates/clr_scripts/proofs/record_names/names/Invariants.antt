use Rattle.std.proofs.Common.{◌≡◌, ◌++◌, drop}
use Rattle.csv.specs.Records.{fields_of}
use Rattle.clr_scripts.proofs.record_names.names.Given as goal

-- the names so far, with the fields that are left, are all fields but the first
abbrev pub invariant-loop-at : goal.invariant-loop-at
invariant-loop-at l = l.list.items ++ drop l.at (fields_of l.fields) ≡ drop 1 (fields_of l.fields)
