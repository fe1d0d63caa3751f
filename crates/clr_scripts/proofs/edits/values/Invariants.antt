use Rattle.std.proofs.Common.{◌≡◌, ◌+◌, drop}
use Rattle.csv.specs.Records.{fields_of}
use Rattle.clr_records.specs.Records.{field_of, in_turn}
use Rattle.clr_scripts.specs.Edits.{value_of, values_of}
use Rattle.clr_readings.proofs.Fronts.{with_front}
use Rattle.clr_scripts.proofs.edits.values.Given as goal

-- the values so far, with those of the columns that are left, are all the values
abbrev pub invariant-loop-i : goal.invariant-loop-i
invariant-loop-i l = with_front l.list.items (in_turn (λ i column. value_of column.1 (field_of (fields_of l.fields) i)) (3 + l.i) (drop l.i l.columns))
    ≡ values_of l.columns (fields_of l.fields) 3
