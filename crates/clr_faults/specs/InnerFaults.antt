-- Why tables make no schema, rules no book, and a row can't stand at its cell.
use Rattle.std.specs.Prelude.{ℕ, List, map, Option, None, Result, Ok, Err}
use Rattle.serde_json.specs.Data.{Data}
use Rattle.clr_rows.specs.declared.tables.TableDef.{TableDef}
use Rattle.clr_rows.specs.declared.faults.RowFault.{RowFault}
use Rattle.clr_rows.specs.declared.faults.SchemaFault.{SchemaFault}
use Rattle.clr_rows.specs.Schemas.{schema_fault}
use Rattle.clr_rules.specs.declared.books.faults.RuleFault.{RuleFault}
use Rattle.clr_rules.specs.Books.{book_fault}
use Rattle.clr_rule_text.specs.declared.faults.TextFault.{TextFault}
use Rattle.clr_rule_text.specs.declared.formats.Format.{Format}
use Rattle.clr_office_reading.specs.Cells.{cell_of}
use Rattle.clr_readings.specs.Readings.{◌>>=◌}
use Rattle.clr_rule_text.specs.Fields.{each_in}
use Rattle.clr_office_reading.specs.Patches.{named_cell_of, put_fault}
use Rattle.clr_rule_text.specs.Rules.{rule_over, stated_rules_of}
use Rattle.clr_office_reading.specs.Tables.{tables_of}

-- what a text that can be read has, if anything
abbrev pub if_read : {A : Type 0} → Result (Option A) TextFault → Option A
if_read (Ok found) = found
if_read (Err e) = None

-- why the tables make no schema
unfoldable pub tables_fault_of : Format → Data → Option SchemaFault
tables_fault_of format d = if_read (tables_of format d >>= λ tables. Ok (schema_fault tables))

-- the number of the first rule that can't stand in a book over the schema, and why
unfoldable pub book_fault_of : Format → List TableDef → Data → Option (ℕ × RuleFault)
book_fault_of format tables d = if_read do
  stated ← stated_rules_of format d
  rules ← each_in (rule_over tables) (map (λ s. s.rule) stated)
  Ok (book_fault tables rules)

-- why the row of an item, or no row, can't stand at its cell
unfoldable pub put_fault_of : List TableDef → Data → Option RowFault
put_fault_of tables d = if_read do
  named ← named_cell_of tables d
  cell ← cell_of tables named.table named.key
  Ok (put_fault tables cell named.row)
