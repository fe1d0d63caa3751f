-- How far an office text can be read, where none of the lists so far has its fault.
use Rattle.std.specs.Prelude.{◌≡◌, ℕ, List, codes, Ok, IsOk}
use Rattle.serde_json.specs.Data.{Data}
use Rattle.clr_rows.specs.declared.tables.TableDef.{TableDef}
use Rattle.clr_rule_text.specs.declared.faults.TextFault.{TextFault}
use Rattle.clr_rule_text.specs.declared.formats.Format.{Format}
use Rattle.clr_office_reading.specs.Cells.{live_of}
use Rattle.clr_office_reading.specs.Offices.{format_of, schema_of}
use Rattle.clr_office_reading.specs.Patches.{differences_at}
use Rattle.clr_rule_text.specs.Rules.{rules_of}
use Rattle.clr_office_reading.specs.Workspaces.{head_of}
use Rattle.clr_faults.specs.Spots.{HasFirst, HasNone}
use Rattle.clr_faults.specs.Stages.{base_faults, list_item_of, live_faults, mark_faults, row_faults, rule_faults, table_faults, workspace_faults}

pub record IsOver (d : Data) (format : Format) (tables : List TableDef) : Type 0 where
  pub formatted : format_of d ≡ Ok format
  pub read : schema_of format d ≡ Ok tables

pub record BehindTables (d : Data) (e : TextFault) (format : Format) (tables : List TableDef) : Type 0 where
  pub over : IsOver d format tables
  pub none : HasNone (table_faults d) e

pub record BehindRules (d : Data) (e : TextFault) (format : Format) (tables : List TableDef) : Type 0 where
  pub before : BehindTables d e format tables
  pub read : IsOk (rules_of format tables d)
  pub none : HasNone (rule_faults d) e

pub record BehindLive (d : Data) (e : TextFault) (format : Format) (tables : List TableDef) : Type 0 where
  pub before : BehindRules d e format tables
  pub read : IsOk (live_of tables d)
  pub none : HasNone (live_faults d) e

-- the workspace at a place is the one that has the fault
pub record HasWorkspace (d : Data) (e : TextFault) (format : Format) (tables : List TableDef) (at : ℕ) : Type 0 where
  pub over : IsOver d format tables
  pub first : HasFirst (workspace_faults d) e at

pub record BehindHead (d : Data) (e : TextFault) (format : Format) (tables : List TableDef) (at : ℕ) (one : Data) : Type 0 where
  pub has : HasWorkspace d e format tables at
  pub there : list_item_of (codes "workspaces") at d ≡ Ok one
  pub read : IsOk (head_of format one)

pub record BehindBase (d : Data) (e : TextFault) (format : Format) (tables : List TableDef) (at : ℕ) (one : Data) : Type 0 where
  pub before : BehindHead d e format tables at one
  pub read : IsOk (differences_at (codes "base") tables one)
  pub none : HasNone (base_faults at d) e

pub record BehindRows (d : Data) (e : TextFault) (format : Format) (tables : List TableDef) (at : ℕ) (one : Data) : Type 0 where
  pub before : BehindBase d e format tables at one
  pub read : IsOk (differences_at (codes "rows") tables one)
  pub none : HasNone (row_faults at d) e

-- the mark at a place of that workspace is the one that has the fault
pub record HasMark (d : Data) (e : TextFault) (format : Format) (tables : List TableDef) (at : ℕ) (one : Data) (mark : ℕ) : Type 0 where
  pub before : BehindHead d e format tables at one
  pub first : HasFirst (mark_faults at d) e mark
