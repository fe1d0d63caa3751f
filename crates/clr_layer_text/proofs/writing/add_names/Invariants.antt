use Rattle.std.proofs.Common.{◌≡◌, ◌++◌, [], take}
use Rattle.csv.specs.Records.{fields_of, partial_of}
use Rattle.clr_rows.specs.Schemas.{names_of}
use Rattle.clr_layer_text.proofs.writing.add_names.Given as goal

-- the names so far are added
abbrev pub invariant-loop-column : goal.invariant-loop-column
invariant-loop-column l = record {
  added : fields_of l.fields ≡ fields_of l.initial.fields ++ names_of (take l.column-index l.columns);
  whole : partial_of l.fields ≡ [];
}
