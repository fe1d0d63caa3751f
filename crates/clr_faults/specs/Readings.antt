-- The reading that an item of each list has: on its own, or over what those before it left.
use Rattle.std.specs.Prelude.{List, [], ◌∷◌, ◌++◌, Result, Ok, Err}
use Rattle.serde_json.specs.Data.{Data}
use Rattle.clr_rows.specs.declared.tables.TableDef.{TableDef}
use Rattle.clr_rows.specs.Contents.{Content}
use Rattle.clr_deltas.specs.Differences.{Differences}
use Rattle.clr_deltas.specs.Deltas.{Delta}
use Rattle.clr_rule_text.specs.declared.faults.TextFault.{TextFault}
use Rattle.clr_rule_text.specs.declared.formats.Format.{Format}
use Rattle.clr_office_reading.specs.Cells.{named_row_of, with_named_row}
use Rattle.clr_readings.specs.Readings.{◌>>=◌}
use Rattle.clr_office_reading.specs.Patches.{named_cell_of, with_cell}
use Rattle.clr_rule_text.specs.Rules.{named_rule_of, rule_over}
use Rattle.clr_office_reading.specs.Workspaces.{delta_of, mark_over, named_mark_of}

-- whether a value can be read, whatever it means
abbrev pub readable : {A : Type 0} → Result A TextFault → Result Unit TextFault
readable (Ok x) = Ok tt
readable (Err e) = Err e

-- a rule over the schema
unfoldable pub rule_reading : List TableDef → Data → Result Unit TextFault
rule_reading tables d = readable (named_rule_of d >>= rule_over tables)

-- a mark with its cells
unfoldable pub mark_reading : List TableDef → Data → Result Unit TextFault
mark_reading tables d = readable (named_mark_of tables d >>= mark_over tables)

-- a content with one more row, as it is written
unfoldable pub put_row_of : List TableDef → Content → Data → Result Content TextFault
put_row_of tables content d = named_row_of tables d >>= with_named_row tables content

-- differences with one more cell, as it is written
unfoldable pub put_cell_of : List TableDef → Differences → Data → Result Differences TextFault
put_cell_of tables differences d = named_cell_of tables d >>= with_cell tables differences

-- one more workspace behind earlier ones
unfoldable pub deltas_with : Format → List TableDef → List Delta → Data → Result (List Delta) TextFault
deltas_with format tables earlier d = delta_of format tables earlier d >>= λ l. Ok (earlier ++ l ∷ [])
