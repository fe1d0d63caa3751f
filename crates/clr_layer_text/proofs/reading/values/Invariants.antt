use Rattle.std.proofs.Common.{◌≡◌, ◌+◌, drop}
use Rattle.csv.specs.Records.{fields_of}
use Rattle.clr_records.specs.Records.{field_of, in_turn}
use Rattle.clr_readings.proofs.Fronts.{with_front}
use Rattle.clr_layer_text.specs.Layers.{value_of, values_of}
use Rattle.clr_layer_text.proofs.reading.values.Given as goal

-- the values so far, with those of the columns that are left, are all the values
abbrev pub invariant-loop-column : goal.invariant-loop-column
invariant-loop-column l =
    with_front l.list.items (in_turn (λ _ column. value_of column.kind (field_of (fields_of l.fields) column.at)) (0 + l.column-index)
    (drop l.column-index l.columns)) ≡ values_of l.columns (fields_of l.fields)
