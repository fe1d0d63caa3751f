-- The first known need that its rule can't have, and why.
use Rattle.std.specs.Prelude.{◌≡◌, ℕ, ℤ, suc, List, [], ◌∷◌, map, Option, Some, None, Result, Ok, Err, IsOk, MatchOption, is_err, if◌then◌else◌}
use Rattle.std.specs.Ordering.{is_lt}
use Rattle.serde_json.specs.Data.{Data}
use Rattle.clr_rows.specs.declared.cells.CellId.{CellId}
use Rattle.clr_rows.specs.declared.tables.TableDef.{TableDef}
use Rattle.clr_rows.specs.Cells.{cell_cmp}
use Rattle.clr_rules.specs.declared.rules.Rule.{Rule}
use Rattle.clr_rules.specs.Books.{book_fault}
use Rattle.clr_readings.specs.Readings.{◌>>=◌}
use Rattle.clr_rule_text.specs.declared.faults.TextFault.{TextFault}
use Rattle.clr_rule_text.specs.declared.faults.TextFault.TheVariants.{BadRule}
use Rattle.clr_rule_text.specs.declared.formats.Format.{Format}
use Rattle.clr_rule_text.specs.declared.need_names.NeedName.{NeedName}
use Rattle.clr_rule_text.specs.declared.stated_rules.StatedRule.{StatedRule}
use Rattle.clr_rule_text.specs.Fields.{each_in, none_or_fault}
use Rattle.clr_rule_text.specs.Known.{greater_table, known_cell, known_need, known_part, lesser_table}
use Rattle.clr_rule_text.specs.Rules.{rule_over, stated_rules_of}
use Rattle.clr_faults.specs.declared.known_faults.BadNeed.{BadNeed}
use Rattle.clr_faults.specs.declared.known_faults.NeedFault.{NeedFault}
use Rattle.clr_faults.specs.declared.known_faults.NeedFault.TheVariants.{FirstKey, SecondKey, NotAscending, FirstPart, SecondPart}
use Rattle.clr_faults.specs.InnerFaults.{if_read}

-- a part that no path has
abbrev pub part_fault : NeedName → Option NeedFault
part_fault name =
    if is_err (known_part name.first_part) then Some FirstPart
    else (if is_err (known_part name.second_part) then Some SecondPart
    else None)

abbrev pub cell_in : ℕ → ℤ → CellId
cell_in table key = record { table = table; key = key }

-- a second key at which no row could stand, or whose cell isn't greater than the first
abbrev pub second_fault : List TableDef → Rule → NeedName → Option ℤ → Option NeedFault
second_fault tables rule name None = part_fault name
second_fault tables rule name (Some key) =
    if is_err (known_cell tables (greater_table rule) key) then Some SecondKey
    else (if is_lt (cell_cmp (cell_in (lesser_table rule) name.first) (cell_in (greater_table rule) key)) then part_fault name
    else Some NotAscending)

-- why a name is no need of a rule, if it is none
unfoldable pub need_fault : List TableDef → Rule → NeedName → Option NeedFault
need_fault tables rule name =
    if is_err (known_cell tables (lesser_table rule) name.first) then Some FirstKey else second_fault tables rule name name.second

-- the fault of the name at a place, or the first later one
abbrev pub fault_at : ℕ → Option NeedFault → Option (ℕ × NeedFault) → Option (ℕ × NeedFault)
fault_at at (Some fault) later = Some (at, fault)
fault_at at None later = later

-- the first of some names of a rule, the first of which has this place, that is no need of the rule
unfoldable pub first_bad_name : List TableDef → Rule → ℕ → List NeedName → Option (ℕ × NeedFault)
first_bad_name tables rule at [] = None
first_bad_name tables rule at (name ∷ names) = fault_at at (need_fault tables rule name) (first_bad_name tables rule (suc at) names)

-- the name of the rule of a number, or the first later one
abbrev pub of_number : ℕ → Option (ℕ × NeedFault) → Option BadNeed → Option BadNeed
of_number number (Some found) later = Some (record { rule = number; place = found.0; fault = found.1 })
of_number number None later = later

-- the first name of some rules, the first of which has this number, that is no need of its rule
unfoldable pub first_bad_need : List TableDef → ℕ → List Rule → List (List NeedName) → Option BadNeed
first_bad_need tables number [] names = None
first_bad_need tables number (rule ∷ rules) [] = None
first_bad_need tables number (rule ∷ rules) (names ∷ others) =
    of_number number (first_bad_name tables rule 0 names) (first_bad_need tables (suc number) rules others)

-- of rules as they are stated, where they make a book
unfoldable pub bad_need_stated : List TableDef → List StatedRule → Option BadNeed
bad_need_stated tables stated = if_read do
  rules ← each_in (rule_over tables) (map (λ s. s.rule) stated)
  _ ← none_or_fault BadRule (book_fault tables rules)
  Ok (first_bad_need tables 0 rules (map (λ s. s.known) stated))

abbrev pub bad_need_if_read : List TableDef → Result (List StatedRule) TextFault → Option BadNeed
bad_need_if_read tables (Ok stated) = bad_need_stated tables stated
bad_need_if_read tables (Err e) = None

-- the first known need of a text that its rule can't have
unfoldable pub known_fault_of : Format → List TableDef → Data → Option BadNeed
known_fault_of format tables d = bad_need_if_read tables (stated_rules_of format d)

-- a name has a fault exactly where it is no need of its rule
abbrev pub NeedFaultLaw : Type 0
NeedFaultLaw = (tables : List TableDef) (number : ℕ) (rule : Rule) (name : NeedName)
    → MatchOption (need_fault tables rule name) (IsOk (known_need tables number rule name)) (λ _. known_need tables number rule name ≡ Err BadRule)
