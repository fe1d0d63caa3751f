use Rattle.std.proofs.Common.{◌≡◌, ◌++◌, string_bytes}
use Rattle.std.specs.List.{flat_map, zip}
use Rattle.clr_phrases.specs.Rows.{column_text}
use Rattle.clr_phrases.proofs.rows.add_values.Given as goal

-- the values so far, with those that are left, are all the values
abbrev pub invariant-loop-name : goal.invariant-loop-name
invariant-loop-name l = string_bytes l.text ++ flat_map column_text (zip l.name-iterator.a.rest.now l.name-iterator.b.rest.now)
    ≡ string_bytes l.initial.text ++ flat_map column_text (zip l.table.columns l.row.values)
