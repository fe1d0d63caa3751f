use Rattle.std.proofs.Common.{◌≡◌, ◌++◌, ◌<◌, ℕ, [], map, take}
use Rattle.std.specs.Prelude.{slice_index_or}
use Rattle.csv.specs.Records.{fields_of, partial_of}
use Rattle.clr_rows.specs.declared.rows.Value.{Value}
use Rattle.clr_records.specs.Values.{IsText, value_field}
use Rattle.clr_records.proofs.fields.add_values.Given as goal

-- the values so far are added, each a whole field, and their texts are in UTF-8
abbrev pub invariant-loop-value : goal.invariant-loop-value
invariant-loop-value l = record {
  added : fields_of l.fields ≡ fields_of l.initial.fields ++ map value_field (take l.value-index l.values);
  whole : partial_of l.fields ≡ [];
  texts : (k : ℕ) (d : Value) → k < l.value-index → IsText (slice_index_or l.values k d);
}
