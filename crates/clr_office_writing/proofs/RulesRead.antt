-- Rules that are written are read back, and stand over the schema again.
use Rattle.std.proofs.Common.{◌≡◌, ℕ, zero, suc, ◌+◌, ◌<◌, ◌^◌, ℤ, pos, negsuc, Bool, true, false, List, [], ◌∷◌, length, map, Option, Some, None, Ok, refl, ap}
use Rattle.std.proofs.Common.{◌∙◌, arith}
use Rattle.std.specs.Prelude.{slice_get, option_map, if◌then◌else◌}
use Rattle.std.specs.List.{AllByRecursion}
use Rattle.std.proofs.lemmas.Bool.{and_parts, not-true, leb-true, lt-ltb, ltb-true, false≢true}
use Rattle.serde_json.specs.Data.{string}
use Rattle.serde_json.specs.View.{items_of}
use Rattle.clr_rows.specs.declared.rows.Value.{Value}
use Rattle.clr_rows.specs.declared.tables.Kind.{Kind}
use Rattle.clr_rows.specs.declared.tables.TableDef.{TableDef}
use Rattle.clr_rows.specs.Names.{is_key_word}
use Rattle.clr_rows.specs.Numbers.{is_i64}
use Rattle.clr_rows.specs.Schemas.{column_named, is_of_kind, is_number, schema_fault, table_named, name_of_table}
use Rattle.clr_rows.proofs.SchemaLemmas.{column_of_name, good_column_name, passed, table_of_name}
use Rattle.clr_rules.specs.declared.columns.Col.{Col}
use Rattle.clr_rules.specs.declared.columns.Col.TheVariants as column
use Rattle.clr_rules.specs.declared.books.faults.RuleFault.{RuleFault}
use Rattle.clr_rules.specs.declared.books.faults.RuleFault.TheVariants.{NoTable, NoColumn, KindsDiffer, WrongShape, BadDistance, BadFilter}
use Rattle.clr_rules.specs.declared.needs.Broken.{Broken}
use Rattle.clr_rules.specs.declared.rules.Rule.{Rule}
use Rattle.clr_rules.specs.declared.rules.Rule.TheVariants as rule
use Rattle.clr_rules.specs.declared.rules.Tip.{Tip}
use Rattle.clr_rules.specs.declared.rules.Tip.TheVariants as tip
use Rattle.clr_rules.specs.declared.sides.Side.{Side}
use Rattle.clr_rules.specs.Books.{FitsBook, are_columns_of, book_fault, fault_or_later, first_fault, has_columns, has_distance, has_filter, has_filters}
use Rattle.clr_rules.specs.Books.{has_forms, has_same_kinds, has_table, has_tables}
use Rattle.clr_rules.specs.Books.{is_column_of, is_distance, is_literal_of, is_some_kind, kind_in, kind_of, rule_fault}
use Rattle.clr_rule_text.specs.declared.faults.TextFault.TheVariants.{BadRule}
use Rattle.clr_rule_text.specs.declared.named_rules.NamedRule.{NamedRule}
use Rattle.clr_rule_text.specs.declared.named_rules.NamedRule.TheVariants.{Unique, Partner, EndNode, Crossing, Near}
use Rattle.clr_rule_text.specs.declared.named_sides.NamedSide.{NamedSide}
use Rattle.clr_readings.specs.Readings.{or_fault}
use Rattle.clr_rule_text.specs.Fields.{each, each_in, words_of}
use Rattle.clr_rule_text.specs.Rules.{column_number, column_over, columns_over, crossing_of, end_node_of, filter_of, literal_of, literal_over, literal_pair}
use Rattle.clr_rule_text.specs.Rules.{named_rule_of, list_of_words_at, near_of, partner_of}
use Rattle.clr_rule_text.specs.Rules.{crossing_over, end_node_over, near_over, partner_over, rule_over, side_at, side_of, side_over, tip_named, tip_of}
use Rattle.clr_rule_text.specs.Rules.{unique_of, unique_over}
use Rattle.clr_rules.proofs.FittingLemmas.{literal_within, no_fault}
use Rattle.clr_office_writing.specs.RuleData.{literal_data, name_of_column, name_of_number, named_columns, named_literal, named_rule, named_rule_data, named_side}
use Rattle.clr_office_writing.specs.RuleData.{side_data, tip_word}
use Rattle.clr_office_writing.proofs.ListsRead.{all_mapped, all_pass, any_read, each_found, each_read, number_read, value_read}

-- with names ---------------------------------------------------------------------------------

-- the numbers of a rule with names are within 64 bits
abbrev pub IsSideWithin : NamedSide → Type 0
IsSideWithin side = AllByRecursion (λ l. is_number l.1 ≡ true) side.filter

abbrev pub IsRuleWithin : NamedRule → Type 0
IsRuleWithin (Unique subject columns) = IsSideWithin subject
IsRuleWithin (Partner subject columns server server_columns) = IsSideWithin subject × IsSideWithin server
IsRuleWithin (EndNode subject tip server) = IsSideWithin subject × IsSideWithin server
IsRuleWithin (Crossing a b server) = IsSideWithin a × (IsSideWithin b × IsSideWithin server)
IsRuleWithin (Near a b d) = IsSideWithin a × (IsSideWithin b × (is_i64 d ≡ true))

literal_read : (l : List ℕ × Value) → is_number l.1 ≡ true → literal_of (literal_data l) ≡ Ok l
unfolding literal_of literal_pair
literal_read l h = rw (value_read l.1 h) refl

side_read : (s : NamedSide) → IsSideWithin s → side_of (side_data s) ≡ Ok s
unfolding side_of filter_of
side_read s h = rw (each_read (λ l. is_number l.1 ≡ true) literal_of literal_data literal_read s.filter h) refl

names_read : (names : List (List ℕ)) → each words_of (items_of (map string names)) ≡ Ok names
names_read names = any_read words_of string (λ name. refl) names

tip_read : (t : Tip) → tip_named (tip_word t) ≡ Ok t
tip_read tip.First = refl
tip_read tip.Second = refl

-- whether a rule has its known needs beside its fields or not
pub named_rule_read : (known : Option (List Broken)) (r : NamedRule) → IsRuleWithin r → named_rule_of (named_rule_data known r) ≡ Ok r
unfolding named_rule_of unique_of partner_of end_node_of crossing_of near_of side_at list_of_words_at tip_of
named_rule_read None (Unique subject columns) h = rw (side_read subject h, names_read columns) refl
named_rule_read (Some needs) (Unique subject columns) h = rw (side_read subject h, names_read columns) refl
named_rule_read None (Partner subject columns server server_columns) h =
    rw (side_read subject h.0, side_read server h.1, names_read columns, names_read server_columns) refl
named_rule_read (Some needs) (Partner subject columns server server_columns) h =
    rw (side_read subject h.0, side_read server h.1, names_read columns, names_read server_columns) refl
named_rule_read None (EndNode subject t server) h = rw (side_read subject h.0, side_read server h.1, tip_read t) refl
named_rule_read (Some needs) (EndNode subject t server) h = rw (side_read subject h.0, side_read server h.1, tip_read t) refl
named_rule_read None (Crossing a b server) h = rw (side_read a h.0, side_read b h.1.0, side_read server h.1.1) refl
named_rule_read (Some needs) (Crossing a b server) h = rw (side_read a h.0, side_read b h.1.0, side_read server h.1.1) refl
named_rule_read None (Near a b d) h = rw (side_read a h.0, side_read b h.1.0, number_read d h.1.1) refl
named_rule_read (Some needs) (Near a b d) h = rw (side_read a h.0, side_read b h.1.0, number_read d h.1.1) refl

-- the tests that a rule of a book passes -----------------------------------------------------

pub record Passes (tables : List TableDef) (r : Rule) : Type 0 where
  pub sides : has_tables tables r ≡ true
  pub columns : has_columns tables r ≡ true
  pub distance : has_distance r ≡ true
  pub filters : has_filters tables r ≡ true

passes : (tables : List TableDef) (r : Rule) → rule_fault tables r ≡ None → Passes tables r
unfolding rule_fault
passes tables r h =
    let a = passed (has_tables tables r) NoTable _ h in
    let b = passed (has_columns tables r) NoColumn _ a.1 in
    let k = passed (has_same_kinds tables r) KindsDiffer _ b.1 in
    let f = passed (has_forms tables r) WrongShape _ k.1 in
    let d = passed (has_distance r) BadDistance _ f.1 in
    let l = passed (has_filters tables r) BadFilter _ d.1 in
    record { sides = a.0; columns = b.0; distance = d.0; filters = l.0 }

each_passes : (tables : List TableDef) (n : ℕ) (rules : List Rule) → first_fault tables n rules ≡ None → AllByRecursion (Passes tables) rules
unfolding first_fault
each_passes tables n [] h = tt
each_passes tables n (r ∷ rules) h = let a = no_fault n (rule_fault tables r) _ h in (passes tables r a.0, each_passes tables (n + 1) rules a.1)

few_rules : (b : Bool) (first : Option (ℕ × RuleFault)) (e : ℕ × RuleFault) → (if b then first else Some e) ≡ None → first ≡ None
few_rules true first e h = h
few_rules false first e h = cc

all_pass_in : (tables : List TableDef) (rules : List Rule) → FitsBook tables rules → AllByRecursion (Passes tables) rules
unfolding book_fault
all_pass_in tables rules h = each_passes tables 0 rules (few_rules _ _ _ h)

-- numbers ------------------------------------------------------------------------------------

distance_within : (d : ℤ) → is_distance d ≡ true → is_i64 d ≡ true
distance_within (pos n) e = lt-ltb n (2 ^ 63) (omega (arith, leb-true n 1000000 (and_parts _ _ e).1))
distance_within (negsuc n) e = absurd (false≢true e)

module _ (tables : List TableDef) where
  side_within : (s : Side) → has_filter tables s ≡ true → IsSideWithin (named_side tables s)
  side_within s h =
      all_mapped (λ f. is_literal_of (kind_of tables s.table (column.At f.0)) f.1 ≡ true) (λ l. is_number l.1 ≡ true) (named_literal tables s.table)
      (λ f is. literal_within _ f.1 is) s.filter
      (all_pass (λ f. is_literal_of (kind_of tables s.table (column.At f.0)) f.1) s.filter h)

  rule_within : (r : Rule) → Passes tables r → IsRuleWithin (named_rule tables r)
  rule_within (rule.Unique subject columns) p = side_within subject (and_parts _ _ p.filters).0
  rule_within (rule.Partner subject columns server server_columns) p = let f = and_parts _ _ p.filters in (side_within subject f.0, side_within server f.1)
  rule_within (rule.EndNode subject t server) p = let f = and_parts _ _ p.filters in (side_within subject f.0, side_within server f.1)
  rule_within (rule.Crossing a b server) p = let f = and_parts _ _ p.filters in let g = and_parts _ _ f.1 in
      (side_within a f.0, (side_within b g.0, side_within server g.1))
  rule_within (rule.Near a b d) p = let f = and_parts _ _ p.filters in
      (side_within a f.0, (side_within b (and_parts _ _ f.1).0, distance_within d p.distance))

  pub rules_within : (rules : List Rule) → FitsBook tables rules → AllByRecursion IsRuleWithin (map (named_rule tables) rules)
  rules_within rules book = all_mapped (Passes tables) IsRuleWithin (named_rule tables) rule_within rules (all_pass_in tables rules book)

-- over the schema ----------------------------------------------------------------------------

element_at : {A : Type 0} (xs : List A) (n : ℕ) → n < length xs → (x : A) × (slice_get xs n ≡ Some x)
element_at [] n h = absurd (omega arith)
element_at (x ∷ xs) zero h = (x, refl)
element_at (x ∷ xs) (suc n) h = element_at xs n (omega arith)

some_column : (table : TableDef) (m : ℕ) (found : Option (List ℕ × Kind)) → slice_get table.columns m ≡ found → is_some_kind (option_map (λ c. c.1) found)
    ≡ true
    → (c : List ℕ × Kind) × (slice_get table.columns m ≡ Some c)
some_column table m None is h = cc
some_column table m (Some c) is h = (c, is)

column_parts : (found : Option TableDef) (m : ℕ) → is_some_kind (kind_in found (column.At m)) ≡ true
    → (table : TableDef) × (found ≡ Some table) × (c : List ℕ × Kind) × (slice_get table.columns m ≡ Some c)
column_parts None m h = cc
column_parts (Some table) m h = let g = some_column table m (slice_get table.columns m) refl h in (table, refl, g.0, g.1)

column_name : (tables : List TableDef) (n m : ℕ) (table : TableDef) (c : List ℕ × Kind) → slice_get tables n ≡ Some table → slice_get table.columns m ≡ Some c
    → name_of_number tables n m ≡ c.0
column_name tables n m table c is at = rw (is, at) refl

some_kind : (found : Option Kind) (v : Value) → is_literal_of found v ≡ true → is_some_kind found ≡ true
some_kind None v e = e
some_kind (Some k) v e = refl

module _ (tables : List TableDef) (schema : schema_fault tables ≡ None) where
  -- a column is found by its name, which isn't KEY
  column_found : (n m : ℕ) → is_some_kind (kind_of tables n (column.At m)) ≡ true → (column_number tables n (name_of_number tables n m) ≡ Ok m)
      × (is_key_word (name_of_number tables n m) ≡ false)
  column_found n m h =
      let p = column_parts (slice_get tables n) m h in
      let name = column_name tables n m p.0 p.2 p.1 p.3 in
      let good = and_parts _ _ (good_column_name tables n m p.0 p.2 schema p.1 p.3) in
      (ap (or_fault BadRule) (ap (column_named tables n) name ∙ column_of_name tables n m p.0 p.2 schema p.1 p.3), ap is_key_word name ∙ not-true _ good.1)

  literal_found : (n : ℕ) (f : ℕ × Value) → is_literal_of (kind_of tables n (column.At f.0)) f.1 ≡ true → literal_over tables n (named_literal tables n f)
      ≡ Ok f
  literal_found n f h = rw ((column_found n f.0 (some_kind _ f.1 h)).0) refl

  side_found : (s : Side) → has_table tables s ≡ true → has_filter tables s ≡ true → side_over tables (named_side tables s) ≡ Ok s
  unfolding side_over
  side_found s known filter =
      let t = element_at tables s.table (ltb-true s.table (length tables) known) in
      let name : name_of_table tables s.table ≡ t.0.name = rw t.1 refl in
      rw (ap (table_named tables) name ∙ table_of_name tables s.table t.0 schema t.1)
      (rw (each_found (λ f. is_literal_of (kind_of tables s.table (column.At f.0)) f.1 ≡ true) (literal_over tables s.table) (named_literal tables s.table)
      (literal_found s.table) s.filter (all_pass _ s.filter filter)) refl)

  column_again : (n : ℕ) (c : Col) → is_some_kind (kind_of tables n c) ≡ true → column_over tables n (name_of_column tables n c) ≡ Ok c
  column_again n column.Key h = refl
  column_again n (column.At m) h = let found = column_found n m h in rw (found.1, found.0) refl

  columns_found : (s : Side) (cs : List Col) → are_columns_of tables s cs ≡ true → columns_over tables s.table (named_columns tables s cs) ≡ Ok cs
  columns_found s cs h = each_found (λ c. is_column_of tables s c ≡ true) (column_over tables s.table) (name_of_column tables s.table) (column_again s.table) cs
      (all_pass _ cs (and_parts _ _ h).1)

  rule_found : (r : Rule) → Passes tables r → rule_over tables (named_rule tables r) ≡ Ok r
  unfolding unique_over partner_over end_node_over crossing_over near_over
  rule_found (rule.Unique subject columns) p =
      rw (side_found subject (and_parts _ _ p.sides).0 (and_parts _ _ p.filters).0, columns_found subject columns (and_parts _ _ p.columns).0) refl
  rule_found (rule.Partner subject columns server server_columns) p =
      let t = and_parts _ _ p.sides in let c = and_parts _ _ p.columns in let f = and_parts _ _ p.filters in
      rw (side_found subject t.0 f.0, columns_found subject columns c.0, side_found server t.1 f.1, columns_found server server_columns c.1) refl
  rule_found (rule.EndNode subject tip server) p =
      let t = and_parts _ _ p.sides in let f = and_parts _ _ p.filters in
      rw (side_found subject t.0 f.0, side_found server t.1 f.1) refl
  rule_found (rule.Crossing a b server) p =
      let t = and_parts _ _ p.sides in let u = and_parts _ _ t.1 in let f = and_parts _ _ p.filters in let g = and_parts _ _ f.1 in
      rw (side_found a t.0 f.0, side_found b u.0 g.0, side_found server u.1 g.1) refl
  rule_found (rule.Near a b d) p =
      let t = and_parts _ _ p.sides in let f = and_parts _ _ p.filters in
      rw (side_found a t.0 f.0, side_found b (and_parts _ _ t.1).0 (and_parts _ _ f.1).0) refl

  pub rules_found : (rules : List Rule) → FitsBook tables rules → each_in (rule_over tables) (map (named_rule tables) rules) ≡ Ok rules
  rules_found rules book = each_found (Passes tables) (rule_over tables) (named_rule tables) rule_found rules (all_pass_in tables rules book)
