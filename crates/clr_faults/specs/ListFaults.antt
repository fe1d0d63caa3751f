-- The first fault of each kind of list, in the reader's order.
use Rattle.std.specs.Prelude.{ℕ, List, [], Option, Some, None}
use Rattle.serde_json.specs.Data.{Items}
use Rattle.clr_rows.specs.declared.tables.TableDef.{TableDef}
use Rattle.clr_rows.specs.Contents.{no_rows}
use Rattle.clr_deltas.specs.Differences.{no_differences}
use Rattle.clr_rule_text.specs.declared.faults.TextFault.{TextFault}
use Rattle.clr_rule_text.specs.declared.formats.Format.{Format}
use Rattle.clr_office_reading.specs.Cells.{named_row_of}
use Rattle.clr_office_reading.specs.Patches.{named_cell_of}
use Rattle.clr_rule_text.specs.Rules.{stated_rule_of}
use Rattle.clr_office_reading.specs.Workspaces.{named_mark_of}
use Rattle.clr_faults.specs.FirstFaults.{alone, first_fault_from}
use Rattle.clr_faults.specs.Readings.{deltas_with, mark_reading, put_cell_of, put_row_of, readable, rule_reading}

-- the fault of a list whose items are read twice: that of the first reading, or else that of the second
abbrev pub fault_else : Option (ℕ × TextFault) → Option (ℕ × TextFault) → Option (ℕ × TextFault)
fault_else None other = other
fault_else (Some first) other = Some first

abbrev pub rule_fault_in : Format → List TableDef → Items → Option (ℕ × TextFault)
rule_fault_in format tables items =
    fault_else (first_fault_from (alone (λ d. readable (stated_rule_of format d))) tt 0 items) (first_fault_from (alone (rule_reading tables)) tt 0 items)

abbrev pub row_fault_in : List TableDef → Items → Option (ℕ × TextFault)
row_fault_in tables items =
    fault_else (first_fault_from (alone (λ d. readable (named_row_of tables d))) tt 0 items) (first_fault_from (put_row_of tables) no_rows 0 items)

abbrev pub cell_fault_in : List TableDef → Items → Option (ℕ × TextFault)
cell_fault_in tables items =
    fault_else (first_fault_from (alone (λ d. readable (named_cell_of tables d))) tt 0 items) (first_fault_from (put_cell_of tables) no_differences 0 items)

abbrev pub mark_fault_in : List TableDef → Items → Option (ℕ × TextFault)
mark_fault_in tables items =
    fault_else (first_fault_from (alone (λ d. readable (named_mark_of tables d))) tt 0 items) (first_fault_from (alone (mark_reading tables)) tt 0 items)

abbrev pub workspace_fault_in : Format → List TableDef → Items → Option (ℕ × TextFault)
workspace_fault_in format tables items = first_fault_from (deltas_with format tables) [] 0 items
