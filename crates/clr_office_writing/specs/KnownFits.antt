-- Known needs that stand in a text: each is one that its rule can have over the schema, and they ascend.
use Rattle.std.specs.Prelude.{◌≡◌, ◌≤◌, ◌<◌, ℕ, true, List, Some, None, slice_get}
use Rattle.std.specs.List.{AllByRecursion}
use Rattle.std.specs.List.Sorted.{IsStrictlySortedBy}
use Rattle.std.specs.declared.cmp.Ordering.TheVariants.{Less}
use Rattle.clr_rows.specs.declared.cells.CellId.{CellId}
use Rattle.clr_rows.specs.declared.limits.TheConstants.{MOST_VERTICES}
use Rattle.clr_rows.specs.declared.tables.TableDef.{TableDef}
use Rattle.clr_rows.specs.Cells.{cell_cmp}
use Rattle.clr_rows.specs.Schemas.{cell_fault}
use Rattle.clr_rules.specs.declared.needs.Broken.{Broken}
use Rattle.clr_rules.specs.declared.rules.Rule.{Rule}
use Rattle.clr_rules.specs.declared.rules.Rule.TheVariants as rule
use Rattle.clr_rules.specs.Calls.{is_plain}
use Rattle.clr_rules.specs.Needs.{ask_of, broken_cmp}
use Rattle.clr_rule_text.specs.Known.{greater_table, lesser_table}

-- a row could stand at a cell of a table
pub record FitsTable (tables : List TableDef) (table : ℕ) (cell : CellId) : Type 0 where
  pub stands : cell_fault tables cell ≡ None
  pub is : cell.table ≡ table

-- a need of one row, asked as a whole
pub record IsOfOne (b : Broken) : Type 0 where
  pub alone : b.second ≡ None
  pub whole : is_plain (ask_of b) ≡ true

-- a need of two rows, the second at a greater cell of a table
pub record IsOfTwo (tables : List TableDef) (table : ℕ) (b : Broken) : Type 0 where
  pub cell : CellId
  pub second : b.second ≡ Some cell
  pub fits : FitsTable tables table cell
  pub ascend : cell_cmp b.first cell ≡ Less

-- each part is one that some path has
pub record HasParts (b : Broken) : Type 0 where
  pub some_first : 1 ≤ b.first_part
  pub first : b.first_part < MOST_VERTICES
  pub some_second : 1 ≤ b.second_part
  pub second : b.second_part < MOST_VERTICES

-- how many rows a rule's needs are of, and whether they are asked as a whole
abbrev pub FitsKind : List TableDef → Rule → Broken → Type 0
FitsKind tables (rule.Unique subject columns) b = IsOfTwo tables subject.table b × (is_plain (ask_of b) ≡ true)
FitsKind tables (rule.Partner subject columns server server_columns) b = IsOfOne b
FitsKind tables (rule.EndNode subject tip server) b = IsOfOne b
FitsKind tables (rule.Crossing a b' server) b = IsOfTwo tables (greater_table (rule.Crossing a b' server)) b
FitsKind tables (rule.Near a b' d) b = IsOfTwo tables (greater_table (rule.Near a b' d)) b × (is_plain (ask_of b) ≡ true)

-- a need that its rule can have
pub record FitsRule (tables : List TableDef) (rules : List Rule) (b : Broken) : Type 0 where
  pub of_rule : Rule
  pub is : slice_get rules b.rule ≡ Some of_rule
  pub first : FitsTable tables (lesser_table of_rule) b.first
  pub kind : FitsKind tables of_rule b
  pub parts : HasParts b

-- known needs as they are written: each is one that its rule can have, and they ascend
pub record FitsKnown (tables : List TableDef) (rules : List Rule) (known : List Broken) : Type 0 where
  pub each : AllByRecursion (FitsRule tables rules) known
  pub ascend : IsStrictlySortedBy broken_cmp known
