-- The needs of an office text that are known to be broken: first by their names, as they are written in a rule, and then as needs over the schema.
use Rattle.std.specs.Prelude.{ℕ, suc, ℤ, pos, negsuc, nat_le, nat_lt, min, max, ◌&&◌, if◌then◌else◌}
use Rattle.std.specs.Prelude.{List, [], ◌∷◌, ◌++◌, codes, Option, Some, None, Result, Ok, Err}
use Rattle.std.specs.Ordering.{is_lt}
use Rattle.serde_json.specs.Data.{Data, Items, no_items, item}
use Rattle.serde_json.specs.Find.{get}
use Rattle.clr_rows.specs.declared.cells.CellId.{CellId}
use Rattle.clr_rows.specs.declared.limits.TheConstants.{MOST_VERTICES}
use Rattle.clr_rows.specs.declared.tables.TableDef.{TableDef}
use Rattle.clr_rows.specs.Cells.{cell_cmp}
use Rattle.clr_rows.specs.Schemas.{cell_fault}
use Rattle.clr_rules.specs.declared.needs.Broken.{Broken}
use Rattle.clr_rules.specs.declared.rules.Rule.{Rule}
use Rattle.clr_rules.specs.declared.rules.Rule.TheVariants as rule
use Rattle.clr_rule_text.specs.declared.faults.TextFault.{TextFault}
use Rattle.clr_rule_text.specs.declared.faults.TextFault.TheVariants.{BadField, BadRule}
use Rattle.clr_rule_text.specs.declared.formats.Format.{Format}
use Rattle.clr_rule_text.specs.declared.formats.Format.TheVariants.{First, Second, Third, Fourth}
use Rattle.clr_rule_text.specs.declared.named_rules.NamedRule.{NamedRule}
use Rattle.clr_rule_text.specs.declared.named_rules.NamedRule.TheVariants.{Unique, Partner, EndNode, Crossing, Near}
use Rattle.clr_rule_text.specs.declared.need_names.NeedName.{NeedName}
use Rattle.clr_readings.specs.Readings.{◌>>=◌}
use Rattle.clr_rule_text.specs.Fields.{each, each_in, array_of, list_or_none, none_or_fault, number_of}

-- by names -----------------------------------------------------------------------------------

-- without parts: the first part of each row, which is the whole row but in a path
abbrev pub whole_name : ℤ → Option ℤ → NeedName
whole_name first second = record { first = first; second = second; first_part = pos 1; second_part = pos 1 }

-- the key of one row
unfoldable pub one_key : Items → Result NeedName TextFault
one_key no_items = Err BadField
one_key (item d no_items) = number_of d >>= λ key. Ok (whole_name key None)
one_key (item d (item e more)) = Err BadField

-- the keys of two rows
unfoldable pub two_keys : Items → Result NeedName TextFault
two_keys no_items = Err BadField
two_keys (item d no_items) = Err BadField
two_keys (item d (item e no_items)) = do
  first ← number_of d
  second ← number_of e
  Ok (whole_name first (Some second))
two_keys (item d (item e (item m more))) = Err BadField

-- the keys of two rows, and then the part of each, which may be left out where both are 1
unfoldable pub keys_and_parts : Items → Result NeedName TextFault
keys_and_parts (item d (item e (item m (item n no_items)))) = do
  first ← number_of d
  second ← number_of e
  first_part ← number_of m
  second_part ← number_of n
  Ok (record { first = first; second = Some second; first_part = first_part; second_part = second_part })
keys_and_parts items = two_keys items

-- how a rule's needs are named: by the key of its row, or by the keys of both
abbrev pub name_of_items : NamedRule → Items → Result NeedName TextFault
name_of_items (Unique subject columns) = two_keys
name_of_items (Partner subject columns server server_columns) = one_key
name_of_items (EndNode subject tip server) = one_key
name_of_items (Crossing a b server) = keys_and_parts
name_of_items (Near a b d) = two_keys

unfoldable pub need_name_of : NamedRule → Data → Result NeedName TextFault
need_name_of named d = array_of d >>= name_of_items named

-- needs are known in format 4 alone
abbrev pub need_names_of : Format → NamedRule → Data → Result (List NeedName) TextFault
need_names_of First named d = Ok []
need_names_of Second named d = Ok []
need_names_of Third named d = Ok []
need_names_of Fourth named d = list_or_none (get (codes "known") d) >>= each (need_name_of named)

-- over the schema ----------------------------------------------------------------------------

-- the table of the lesser cell of a rule's subjects, and that of the greater one
abbrev pub lesser_table : Rule → ℕ
lesser_table (rule.Unique subject columns) = subject.table
lesser_table (rule.Partner subject columns server server_columns) = subject.table
lesser_table (rule.EndNode subject tip server) = subject.table
lesser_table (rule.Crossing a b server) = min a.table b.table
lesser_table (rule.Near a b d) = min a.table b.table

abbrev pub greater_table : Rule → ℕ
greater_table (rule.Unique subject columns) = subject.table
greater_table (rule.Partner subject columns server server_columns) = subject.table
greater_table (rule.EndNode subject tip server) = subject.table
greater_table (rule.Crossing a b server) = max a.table b.table
greater_table (rule.Near a b d) = max a.table b.table

-- a cell at which some row could stand
abbrev pub known_cell : List TableDef → ℕ → ℤ → Result CellId TextFault
known_cell tables table key = none_or_fault BadRule (cell_fault tables (record { table = table; key = key })) >>= λ _. Ok (record { table = table; key = key })

-- a second cell is greater than the first
abbrev pub if_greater : CellId → CellId → Result (Option CellId) TextFault
if_greater first second = if is_lt (cell_cmp first second) then Ok (Some second) else Err BadRule

abbrev pub second_cell : List TableDef → CellId → ℕ → Option ℤ → Result (Option CellId) TextFault
second_cell tables first table None = Ok None
second_cell tables first table (Some key) = known_cell tables table key >>= if_greater first

-- a part that some path has
abbrev pub known_part : ℤ → Result ℕ TextFault
known_part (pos n) = if nat_le 1 n && nat_lt n MOST_VERTICES then Ok n else Err BadRule
known_part (negsuc n) = Err BadRule

-- the need of a rule that a name is
unfoldable pub known_need : List TableDef → ℕ → Rule → NeedName → Result Broken TextFault
known_need tables number rule name = do
  first ← known_cell tables (lesser_table rule) name.first
  second ← second_cell tables first (greater_table rule) name.second
  first_part ← known_part name.first_part
  second_part ← known_part name.second_part
  Ok (record { rule = number; first = first; second = second; first_part = first_part; second_part = second_part })

-- the needs of rules, the first of which has this number, by the names that each has
unfoldable pub known_needs : List TableDef → ℕ → List Rule → List (List NeedName) → Result (List Broken) TextFault
known_needs tables number [] named = Ok []
known_needs tables number (rule ∷ rules) [] = Ok []
known_needs tables number (rule ∷ rules) (names ∷ others) = do
  needs ← each_in (known_need tables number rule) names
  more ← known_needs tables (suc number) rules others
  Ok (needs ++ more)
