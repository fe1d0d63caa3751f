-- The office that a text is, or the first fault: its parts are read in the order format, tables, rules, live, workspaces.
use Rattle.std.specs.Prelude.{ℕ, ℤ, pos, List, [], codes, map, Option, Some, None, Result, Ok, Err, if◌then◌else◌}
use Rattle.std.specs.Ordering.{int_eq}
use Rattle.std.specs.Str.{is_utf8}
use Rattle.serde_json.specs.Data.{Data}
use Rattle.serde_json.specs.Read.{read}
use Rattle.clr_rows.specs.declared.tables.TableDef.{TableDef}
use Rattle.clr_rows.specs.Contents.{Content}
use Rattle.clr_rows.specs.Schemas.{schema_fault}
use Rattle.clr_rules.specs.declared.needs.Broken.{Broken}
use Rattle.clr_rules.specs.declared.rules.Rule.{Rule}
use Rattle.clr_deltas.specs.NamedDeltas.{stored_delta}
use Rattle.clr_deltas.specs.Deltas.{Delta}
use Rattle.clr_rule_text.specs.declared.faults.TextFault.{TextFault}
use Rattle.clr_rule_text.specs.declared.faults.TextFault.TheVariants.{NotJson, BadField, BadSchema}
use Rattle.clr_office_reading.specs.declared.reading.OfficeParts.{OfficeParts}
use Rattle.clr_rule_text.specs.declared.formats.Format.{Format}
use Rattle.clr_rule_text.specs.declared.formats.Format.TheVariants.{First, Second, Third, Fourth}
use Rattle.clr_readings.specs.Readings.{◌>>=◌}
use Rattle.clr_rule_text.specs.Fields.{none_or_fault, number_at}
use Rattle.clr_office_reading.specs.Tables.{tables_of}
use Rattle.clr_office_reading.specs.Cells.{live_of}
use Rattle.clr_rule_text.specs.Rules.{rules_of}
use Rattle.clr_office_reading.specs.Workspaces.{deltas_of}

abbrev pub format_numbered : ℤ → Result Format TextFault
format_numbered n =
    if int_eq n (pos 1) then Ok First
    else (if int_eq n (pos 2) then Ok Second
    else (if int_eq n (pos 3) then Ok Third
    else (if int_eq n (pos 4) then Ok Fourth
    else Err BadField)))

unfoldable pub format_of : Data → Result Format TextFault
format_of d = number_at (codes "format") d >>= format_numbered

unfoldable pub schema_of : Format → Data → Result (List TableDef) TextFault
schema_of format d = do
  tables ← tables_of format d
  _ ← none_or_fault BadSchema (schema_fault tables)
  Ok tables

-- an office as it is written: the needs that are known to be broken, and the workspaces by their differences
pub record OfficeText : Type 0 where
  pub schema : List TableDef
  pub book : List Rule
  pub known : List Broken
  pub live : Content
  pub deltas : List Delta

unfoldable pub office_of : Data → Result OfficeText TextFault
office_of d = do
  format ← format_of d
  tables ← schema_of format d
  rules ← rules_of format tables d
  live ← live_of tables d
  deltas ← deltas_of format tables d
  Ok (record { schema = tables; book = rules.0; known = rules.1; live = live; deltas = deltas })

abbrev pub office_if_read : Option Data → Result OfficeText TextFault
office_if_read None = Err NotJson
office_if_read (Some d) = office_of d

-- the office of a text, by the value that serde_json reads in its bytes
unfoldable pub office_in : List ℕ → Result OfficeText TextFault
office_in bytes = if is_utf8 bytes then office_if_read (read bytes) else Err NotJson

-- the needs that a text names as known to be broken; one that can't be read names none
abbrev pub known_if_read : Result OfficeText TextFault → List Broken
known_if_read (Ok o) = o.known
known_if_read (Err e) = []

unfoldable pub known_in : List ℕ → List Broken
known_in bytes = known_if_read (office_in bytes)

-- what a call has read
abbrev pub office_read : OfficeParts → OfficeText
office_read parts = record {
  schema = parts.schema;
  book = parts.book;
  known = parts.known;
  live = parts.live;
  deltas = map stored_delta parts.workspaces.items;
}
