-- The first fault of each list of an office text.
use Rattle.std.specs.Prelude.{ℕ, List, codes, Option, Some, None, Result, Ok, Err}
use Rattle.serde_json.specs.Data.{Data, Items}
use Rattle.serde_json.specs.Find.{get}
use Rattle.clr_rows.specs.declared.tables.TableDef.{TableDef}
use Rattle.clr_rules.specs.declared.books.faults.RuleFault.{RuleFault}
use Rattle.clr_rule_text.specs.declared.faults.TextFault.{TextFault}
use Rattle.clr_rule_text.specs.declared.faults.TextFault.TheVariants.{BadRule}
use Rattle.clr_rule_text.specs.declared.formats.Format.{Format}
use Rattle.clr_rule_text.specs.Fields.{list_at, list_or_none}
use Rattle.clr_office_reading.specs.Tables.{table_of}
use Rattle.clr_faults.specs.FirstFaults.{alone, first_fault_from}
use Rattle.clr_faults.specs.declared.known_faults.BadNeed.{BadNeed}
use Rattle.clr_faults.specs.InnerFaults.{book_fault_of}
use Rattle.clr_faults.specs.KnownFaults.{known_fault_of}
use Rattle.clr_faults.specs.ListFaults.{cell_fault_in, fault_else, mark_fault_in, row_fault_in, rule_fault_in, workspace_fault_in}
use Rattle.clr_faults.specs.Readings.{readable}

-- what is found in a list, where there is one
abbrev pub in_list : Result Items TextFault → (Items → Option (ℕ × TextFault)) → Option (ℕ × TextFault)
in_list (Ok items) f = f items
in_list (Err e) f = None

unfoldable pub table_fault : Format → Data → Option (ℕ × TextFault)
table_fault format d = in_list (list_at (codes "tables") d) (λ items. first_fault_from (alone (λ e. readable (table_of format e))) tt 0 items)

-- what the reader says of a fault of the book
abbrev pub bad_rule : Option (ℕ × RuleFault) → Option (ℕ × TextFault)
bad_rule (Some f) = Some (f.0, BadRule)
bad_rule None = None

-- and of a known need that its rule can't have
abbrev pub bad_known : Option BadNeed → Option (ℕ × TextFault)
bad_known (Some found) = Some (found.rule, BadRule)
bad_known None = None

-- the first rule that can't be read; else the first that can't stand in a book over the schema; else the first with a known need that it can't have
unfoldable pub first_rule_fault : Format → List TableDef → Data → Option (ℕ × TextFault)
first_rule_fault format tables d =
    in_list (list_or_none (get (codes "rules") d)) (λ items.
    fault_else (rule_fault_in format tables items) (fault_else (bad_rule (book_fault_of format tables d)) (bad_known (known_fault_of format tables d))))

unfoldable pub live_fault : List TableDef → Data → Option (ℕ × TextFault)
live_fault tables d = in_list (list_at (codes "live") d) (row_fault_in tables)

unfoldable pub workspace_fault : Format → List TableDef → Data → Option (ℕ × TextFault)
workspace_fault format tables d = in_list (list_or_none (get (codes "workspaces") d)) (workspace_fault_in format tables)

-- the cells at a key of a workspace, or of a mark
unfoldable pub cell_fault_at : List ℕ → List TableDef → Data → Option (ℕ × TextFault)
cell_fault_at key tables d = in_list (list_or_none (get key d)) (cell_fault_in tables)

unfoldable pub mark_fault : List TableDef → Data → Option (ℕ × TextFault)
mark_fault tables d = in_list (list_or_none (get (codes "marks") d)) (mark_fault_in tables)
