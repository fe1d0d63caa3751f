-- The first fault of each list, where all that the reader reads before the list can be read.
use Rattle.std.specs.Prelude.{ℕ, List, codes, Option, Some, None, Result, Ok, Err}
use Rattle.serde_json.specs.Data.{Data}
use Rattle.serde_json.specs.Find.{get}
use Rattle.clr_rows.specs.declared.tables.TableDef.{TableDef}
use Rattle.clr_rule_text.specs.declared.faults.TextFault.{TextFault}
use Rattle.clr_rule_text.specs.declared.faults.TextFault.TheVariants.{BadField}
use Rattle.clr_rule_text.specs.declared.formats.Format.{Format}
use Rattle.clr_office_reading.specs.Cells.{live_of}
use Rattle.clr_readings.specs.Readings.{◌>>=◌}
use Rattle.clr_rule_text.specs.Fields.{list_or_none, or_bad_field, words_at}
use Rattle.clr_office_reading.specs.Offices.{format_of, schema_of}
use Rattle.clr_office_reading.specs.Patches.{differences_at}
use Rattle.clr_rule_text.specs.Rules.{rules_of}
use Rattle.clr_office_reading.specs.Workspaces.{head_of}
use Rattle.clr_faults.specs.FirstFaults.{item_at}
use Rattle.clr_faults.specs.Parts.{cell_fault_at, live_fault, mark_fault, first_rule_fault, table_fault, workspace_fault}

-- what can be read
abbrev pub known : {A : Type 0} → Result A TextFault → Option A
known (Ok x) = Some x
known (Err e) = None

abbrev pub table_faults : Data → Result (Option (ℕ × TextFault)) TextFault
table_faults d = format_of d >>= λ format. Ok (table_fault format d)

-- what stands behind the tables
abbrev pub over_schema : {A : Type 0} → (Format → List TableDef → Result A TextFault) → Data → Result A TextFault
over_schema f d = format_of d >>= λ format. schema_of format d >>= λ tables. f format tables

abbrev pub rule_faults : Data → Result (Option (ℕ × TextFault)) TextFault
rule_faults d = over_schema (λ format tables. Ok (first_rule_fault format tables d)) d

abbrev pub live_faults : Data → Result (Option (ℕ × TextFault)) TextFault
live_faults d = over_schema (λ format tables. rules_of format tables d >>= λ rules. Ok (live_fault tables d)) d

abbrev pub workspace_faults : Data → Result (Option (ℕ × TextFault)) TextFault
workspace_faults d = over_schema (λ format tables. rules_of format tables d >>= λ rules. live_of tables d >>= λ live. Ok (workspace_fault format tables d)) d

-- an item of the list at a key
unfoldable pub list_item_of : List ℕ → ℕ → Data → Result Data TextFault
list_item_of key at d = list_or_none (get key d) >>= λ items. or_bad_field (item_at items at)

-- what stands behind the name, the parent and the flag of a workspace
abbrev pub in_workspace : {A : Type 0} → (List TableDef → Data → Result A TextFault) → ℕ → Data → Result A TextFault
in_workspace f at d = over_schema (λ format tables. list_item_of (codes "workspaces") at d >>= λ one. head_of format one >>= λ head. f tables one) d

abbrev pub base_faults : ℕ → Data → Result (Option (ℕ × TextFault)) TextFault
base_faults = in_workspace (λ tables one. Ok (cell_fault_at (codes "base") tables one))

abbrev pub row_faults : ℕ → Data → Result (Option (ℕ × TextFault)) TextFault
row_faults = in_workspace (λ tables one. differences_at (codes "base") tables one >>= λ base. Ok (cell_fault_at (codes "rows") tables one))

abbrev pub mark_faults : ℕ → Data → Result (Option (ℕ × TextFault)) TextFault
mark_faults =
    in_workspace (λ tables one.
    differences_at (codes "base") tables one >>= λ base. differences_at (codes "rows") tables one >>= λ rows. Ok (mark_fault tables one))

abbrev pub name_unless_child : Option Data → Data → Result (List ℕ) TextFault
name_unless_child None d = words_at (codes "savepoint") d
name_unless_child (Some child) d = Err BadField

-- the name of a mark that is a savepoint
unfoldable pub savepoint_of : Data → Result (List ℕ) TextFault
savepoint_of d = name_unless_child (get (codes "child") d) d

-- the cells of a savepoint
abbrev pub saved_faults : ℕ → ℕ → Data → Result (Option (ℕ × TextFault)) TextFault
saved_faults at mark =
    in_workspace (λ tables one. list_item_of (codes "marks") mark one >>= λ d. savepoint_of d >>= λ name. Ok (cell_fault_at (codes "rows") tables d)) at
