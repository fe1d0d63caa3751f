-- Known needs that are written are read back by their names, and are the same over the schema.
use Rattle.std.proofs.Common.{◌≡◌, ℕ, suc, ◌<◌, ◌≤◌, ◌^◌, ℤ, pos, Bool, true, false, List, [], ◌∷◌, map, Option, Some, None, Result, Ok, refl, sym, ap, subst, ◌∙◌, arith}
use Rattle.std.specs.Prelude.{◌==◌, ◌&&◌, nat_le, nat_lt, option_map, if◌then◌else◌}
use Rattle.std.specs.List.{AllByRecursion}
use Rattle.std.specs.Ordering.{is_lt}
use Rattle.std.proofs.lemmas.Bool.{and_from, and_parts, le-leb, lt-ltb, eqb-true}
use Rattle.serde_json.specs.View.{items_of}
use Rattle.clr_rows.specs.declared.cells.CellId.{CellId}
use Rattle.clr_rows.specs.declared.limits.TheConstants.{MOST_VERTICES}
use Rattle.clr_rows.specs.declared.tables.TableDef.{TableDef}
use Rattle.clr_rows.specs.Cells.{cell_cmp}
use Rattle.clr_rows.specs.Numbers.{is_i64}
use Rattle.clr_rows.proofs.SchemaLemmas.{cell_parts, key_within}
use Rattle.clr_rules.specs.declared.needs.Broken.{Broken}
use Rattle.clr_rules.specs.declared.rules.Rule.{Rule}
use Rattle.clr_rules.specs.declared.rules.Rule.TheVariants as rule
use Rattle.clr_rules.specs.Calls.{is_plain}
use Rattle.clr_rules.specs.Needs.{ask_of}
use Rattle.clr_rules.proofs.AskLemmas.{plain_parts}
use Rattle.clr_rule_text.specs.declared.faults.TextFault.{TextFault}
use Rattle.clr_rule_text.specs.declared.faults.TextFault.TheVariants.{BadRule}
use Rattle.clr_rule_text.specs.declared.need_names.NeedName.{NeedName}
use Rattle.clr_rule_text.specs.Known.{greater_table, keys_and_parts, known_cell, known_need, known_part, lesser_table, name_of_items, need_name_of, one_key}
use Rattle.clr_rule_text.specs.Known.{second_cell, two_keys, whole_name}
use Rattle.clr_office_writing.specs.KnownData.{need_data, need_numbers, part_numbers}
use Rattle.clr_office_writing.specs.KnownFits.{FitsKind, FitsRule, FitsTable, HasParts, IsOfOne, IsOfTwo}
use Rattle.clr_office_writing.specs.RuleData.{named_rule}
use Rattle.clr_office_writing.specs.Values.{number_data}
use Rattle.clr_office_writing.proofs.ListsRead.{number_read}

-- the name by which a need is written
abbrev pub need_name : Broken → NeedName
need_name b = record {
  first = b.first.key;
  second = option_map (λ (cell : CellId). cell.key) b.second;
  first_part = pos b.first_part;
  second_part = pos b.second_part;
}

-- by names -----------------------------------------------------------------------------------

key_read : (k : ℤ) → is_i64 k ≡ true → one_key (items_of (map number_data (k ∷ []))) ≡ Ok (whole_name k None)
unfolding one_key
key_read k h = rw (number_read k h) refl

keys_read : (k l : ℤ) → is_i64 k ≡ true → is_i64 l ≡ true → two_keys (items_of (map number_data (k ∷ l ∷ []))) ≡ Ok (whole_name k (Some l))
unfolding two_keys
keys_read k l h i = rw (number_read k h, number_read l i) refl

keys_alone_read : (k l : ℤ) → is_i64 k ≡ true → is_i64 l ≡ true → keys_and_parts (items_of (map number_data (k ∷ l ∷ []))) ≡ Ok (whole_name k (Some l))
unfolding keys_and_parts
keys_alone_read k l h i = keys_read k l h i

part_within : (m : ℕ) → m < MOST_VERTICES → is_i64 (pos m) ≡ true
part_within m lt = lt-ltb m (2 ^ 63) (omega (arith, lt))

parts_read : (k l : ℤ) (m n : ℕ) → is_i64 k ≡ true → is_i64 l ≡ true → m < MOST_VERTICES → n < MOST_VERTICES
    → keys_and_parts (items_of (map number_data (k ∷ l ∷ pos m ∷ pos n ∷ [])))
    ≡ Ok (record { first = k; second = Some l; first_part = pos m; second_part = pos n })
unfolding keys_and_parts
parts_read k l m n h i p q =
    rw (number_read k h, number_read l i, number_read (pos m) (part_within m p), number_read (pos n) (part_within n q)) refl

module _ (tables : List TableDef) where
  table_key : (table : ℕ) (cell : CellId) → FitsTable tables table cell → is_i64 cell.key ≡ true
  table_key table cell fits = key_within cell.key ((cell_parts tables cell fits.stands).2)

  -- a need of one row by its key
  one_named : (b : Broken) (table : ℕ) → FitsTable tables table b.first → IsOfOne b → one_key (items_of (map number_data (need_numbers b))) ≡ Ok (need_name b)
  one_named b table fits one =
      let whole = plain_parts (ask_of b) one.whole in
      rw (one.alone, whole.0, whole.1) (key_read b.first.key (table_key table b.first fits))

  -- a need of two whole rows by both keys
  two_named : (b : Broken) (table other : ℕ) → FitsTable tables table b.first → IsOfTwo tables other b → is_plain (ask_of b) ≡ true
      → two_keys (items_of (map number_data (need_numbers b))) ≡ Ok (need_name b)
  two_named b table other fits two plain =
      let whole = plain_parts (ask_of b) plain in
      rw (two.second, whole.0, whole.1) (keys_read b.first.key two.cell.key (table_key table b.first fits) (table_key other two.cell two.fits))

  -- a need of two rows by both keys, and by the parts where one isn't the first
  crossing_named : (b : Broken) (table other : ℕ) → FitsTable tables table b.first → IsOfTwo tables other b → HasParts b
      → keys_and_parts (items_of (map number_data (need_numbers b))) ≡ Ok (need_name b)
  crossing_named b table other fits two parts = rw two.second (by (b.first_part == 1 && b.second_part == 1) refl)
    where
      by : (plain : Bool) → (b.first_part == 1 && b.second_part == 1) ≡ plain
          → keys_and_parts (items_of (map number_data (b.first.key ∷ two.cell.key ∷ (if plain then [] else pos b.first_part ∷ pos b.second_part ∷ []))))
          ≡ Ok (record { first = b.first.key; second = Some two.cell.key; first_part = pos b.first_part; second_part = pos b.second_part })
      by true is =
          let whole = plain_parts (ask_of b) is in
          rw (whole.0, whole.1) (keys_alone_read b.first.key two.cell.key (table_key table b.first fits) (table_key other two.cell two.fits))
      by false is = parts_read b.first.key two.cell.key b.first_part b.second_part (table_key table b.first fits) (table_key other two.cell two.fits)
          parts.first parts.second

  named_by_kind : (r : Rule) (b : Broken) → FitsTable tables (lesser_table r) b.first → FitsKind tables r b → HasParts b
      → name_of_items (named_rule tables r) (items_of (map number_data (need_numbers b))) ≡ Ok (need_name b)
  named_by_kind (rule.Unique subject columns) b first kind parts = two_named b subject.table subject.table first kind.0 kind.1
  named_by_kind (rule.Partner subject columns server server_columns) b first kind parts = one_named b subject.table first kind
  named_by_kind (rule.EndNode subject tip server) b first kind parts = one_named b subject.table first kind
  named_by_kind (rule.Crossing a c server) b first kind parts = crossing_named b (lesser_table (rule.Crossing a c server))
      (greater_table (rule.Crossing a c server)) first kind parts
  named_by_kind (rule.Near a c d) b first kind parts = two_named b (lesser_table (rule.Near a c d)) (greater_table (rule.Near a c d)) first kind.0 kind.1

  pub need_read : (r : Rule) (b : Broken) → FitsTable tables (lesser_table r) b.first → FitsKind tables r b → HasParts b
      → need_name_of (named_rule tables r) (need_data b) ≡ Ok (need_name b)
  unfolding need_name_of
  need_read r b first kind parts = named_by_kind r b first kind parts

  -- the numbers of a name are within 64 bits
  one_within : (b : Broken) (table : ℕ) → FitsTable tables table b.first → IsOfOne b → AllByRecursion (λ z. is_i64 z ≡ true) (need_numbers b)
  one_within b table fits one = rw one.alone (table_key table b.first fits, tt)

  two_within : (b : Broken) (table other : ℕ) → FitsTable tables table b.first → IsOfTwo tables other b → HasParts b
      → AllByRecursion (λ z. is_i64 z ≡ true) (need_numbers b)
  two_within b table other fits two parts =
      rw two.second (table_key table b.first fits, (table_key other two.cell two.fits, by (b.first_part == 1 && b.second_part == 1)))
    where
      by : (plain : Bool) → AllByRecursion (λ z. is_i64 z ≡ true) (if plain then [] else pos b.first_part ∷ pos b.second_part ∷ [])
      by true = tt
      by false = (part_within b.first_part parts.first, (part_within b.second_part parts.second, tt))

  pub numbers_within : (r : Rule) (b : Broken) → FitsTable tables (lesser_table r) b.first → FitsKind tables r b → HasParts b
      → AllByRecursion (λ z. is_i64 z ≡ true) (need_numbers b)
  numbers_within (rule.Unique subject columns) b first kind parts = two_within b subject.table subject.table first kind.0 parts
  numbers_within (rule.Partner subject columns server server_columns) b first kind parts = one_within b subject.table first kind
  numbers_within (rule.EndNode subject tip server) b first kind parts = one_within b subject.table first kind
  numbers_within (rule.Crossing a c server) b first kind parts =
      two_within b (lesser_table (rule.Crossing a c server)) (greater_table (rule.Crossing a c server)) first kind parts
  numbers_within (rule.Near a c d) b first kind parts = two_within b (lesser_table (rule.Near a c d)) (greater_table (rule.Near a c d)) first kind.0 parts

  -- over the schema --------------------------------------------------------------------------

  cell_again : (table : ℕ) (cell : CellId) → FitsTable tables table cell → known_cell tables table cell.key ≡ Ok cell
  cell_again table cell fits = subst (λ t. known_cell tables t cell.key ≡ Ok cell) fits.is (rw fits.stands refl)

  part_again : (m : ℕ) → 1 ≤ m → m < MOST_VERTICES → known_part (pos m) ≡ Ok m
  part_again m some few = rw (and_from _ _ (le-leb 1 m some) (lt-ltb m MOST_VERTICES few)) refl

  second_again : (b : Broken) (table : ℕ) → IsOfTwo tables table b
      → second_cell tables b.first table (option_map (λ (cell : CellId). cell.key) b.second) ≡ Ok b.second
  second_again b table two = rw two.second (rw (cell_again table two.cell two.fits) (rw two.ascend refl))

  none_again : (b : Broken) (table : ℕ) → IsOfOne b → second_cell tables b.first table (option_map (λ (cell : CellId). cell.key) b.second) ≡ Ok b.second
  none_again b table one = rw one.alone refl

  second_by_kind : (r : Rule) (b : Broken) → FitsKind tables r b
      → second_cell tables b.first (greater_table r) (option_map (λ (cell : CellId). cell.key) b.second) ≡ Ok b.second
  second_by_kind (rule.Unique subject columns) b kind = second_again b subject.table kind.0
  second_by_kind (rule.Partner subject columns server server_columns) b kind = none_again b subject.table kind
  second_by_kind (rule.EndNode subject tip server) b kind = none_again b subject.table kind
  second_by_kind (rule.Crossing a c server) b kind = second_again b (greater_table (rule.Crossing a c server)) kind
  second_by_kind (rule.Near a c d) b kind = second_again b (greater_table (rule.Near a c d)) kind.0

  pub need_again : (number : ℕ) (r : Rule) (b : Broken) → b.rule ≡ number → FitsTable tables (lesser_table r) b.first → FitsKind tables r b → HasParts b
      → known_need tables number r (need_name b) ≡ Ok b
  unfolding known_need
  need_again number r b is first kind parts =
      rw (
        cell_again (lesser_table r) b.first first,
        second_by_kind r b kind,
        part_again b.first_part parts.some_first parts.first,
        part_again b.second_part parts.some_second parts.second,
      ) (ap (λ n. Ok (record b { rule = n })) (sym is))
