-- What a book and rows that fit one schema have: sound rows, and distances that `near` takes.
use Rattle.std.proofs.Common.{◌≡◌, ℕ, zero, suc, ◌+◌, ◌≤◌, Bool, true, false, List, [], ◌∷◌, Option, Some, None, refl, subst, arith}
use Rattle.std.proofs.lemmas.Bool.{and_parts, and_from, false≢true}
use Rattle.std.specs.List.{list_all}
use Rattle.std.specs.Prelude.{if◌then◌else◌, slice_get, length, min, nat_le, option_map, option_to_list, IfSome}
use Rattle.std.proofs.Math.Nat.{min-eq_left}
use Rattle.clr_rows.specs.declared.places.Shape.{Shape}
use Rattle.clr_rows.specs.declared.rows.Value.{Value}
use Rattle.clr_rows.specs.declared.tables.Kind.{Kind}
use Rattle.clr_rows.specs.declared.tables.TableDef.{TableDef}
use Rattle.clr_rows.specs.Parts.{parts_of, part_of}
use Rattle.clr_rows.specs.Schemas.{is_of_kind, is_number}
use Rattle.clr_rows.proofs.SchemaLemmas.{fits_table, passed, row_part, row_parts}
use Rattle.clr_rules.specs.declared.books.faults.RuleFault.{RuleFault}
use Rattle.clr_rules.specs.declared.books.faults.RuleFault.TheVariants.{NoTable, NoColumn, KindsDiffer, WrongShape, BadDistance, BadFilter, TooMany}
use Rattle.clr_rules.specs.declared.limits.TheConstants.{MOST_RULES}
use Rattle.clr_rules.specs.declared.columns.Col.TheVariants as column
use Rattle.clr_rules.specs.declared.rules.Rule.{Rule}
use Rattle.clr_rules.specs.declared.sides.Side.{Side}
use Rattle.clr_rows.specs.declared.cells.Held.{Held as Borrowed}
use Rattle.clr_rows.specs.Held.{Held, held_of}
use Rattle.clr_rules.specs.Books.{kind_of, is_literal_of, has_filter, has_filters, is_side_within, is_rule_within, IsBook, has_tables, has_columns}
use Rattle.clr_rules.specs.Books.{has_same_kinds, has_forms, has_distance, rule_fault, fault_or_later, first_fault, book_fault, FitsBook, FitsCell, FitTogether}
use Rattle.clr_rules.specs.Fitting.{IsSoundShape, IsSoundSegment}
use Rattle.clr_rules.specs.Sides.{Segment, if_any, sides}

segment_of_row : (tables : List TableDef) (s : Held) (n : ℕ) (e : Segment) → FitsCell tables s → slice_get (parts_of s.1.shape) n ≡ Some e → IsSoundSegment e
segment_of_row tables s n e fit is = let ends = row_part tables s.0 s.1 fit n e.0 e.1 is in record { first = ends.0; second = ends.1; differ = ends.2 }

-- the parts of a row that fits have two ends each
pub sound_part : (tables : List TableDef) (s : Held) (n : ℕ) (e : Segment) → FitsCell tables s → part_of s.1.shape n ≡ Some e → IsSoundSegment e
sound_part tables s zero e fit is = absurd (cc)
sound_part tables s (suc n) e fit is = segment_of_row tables s n e fit is

sound_row : (tables : List TableDef) (s : Held) → FitsCell tables s → IsSoundShape s.1.shape
sound_row tables s fit = record {
  coordinates = (fits_table tables s.0 s.1 fit).2.coordinates;
  parts = λ n e is. segment_of_row tables s n e fit is;
  few = row_parts tables s.0 s.1 fit;
}

-- a part of a sound shape is sound
pub part_is_sound : (shape : Shape) (n : ℕ) (e : Segment) → IsSoundShape shape → part_of shape n ≡ Some e → IsSoundSegment e
part_is_sound shape zero e h is = absurd (cc)
part_is_sound shape (suc n) e h is = h.parts n e is

-- each part of a sound shape has a number
pub counted_parts : (shape : Shape) → IsSoundShape shape → min (length (parts_of shape)) 65535 ≡ length (parts_of shape)
counted_parts shape h = min-eq_left (omega (arith, h.few))

-- the rows that fit beside a book are sound
pub first_sound : (rules : List Rule) (s : Held) (rest : List Held) → FitTogether rules (s ∷ rest) → IsSoundShape s.1.shape
first_sound rules s rest h = sound_row h.tables s (h.each 0 s (omega arith))

pub second_sound : (rules : List Rule) (s t : Held) (rest : List Held) → FitTogether rules (s ∷ t ∷ rest) → IsSoundShape t.1.shape
second_sound rules s t rest h = sound_row h.tables t (h.each 1 t (omega arith))

pub third_if_any : (rules : List Rule) (s t : Held) (u : Option Borrowed) → FitTogether rules (s ∷ t ∷ option_to_list (option_map held_of u))
    → IfSome u (λ held. IsSoundShape held.row.now.shape)
third_if_any rules s t None h = tt
third_if_any rules s t (Some u) h = sound_row h.tables (held_of u) (h.each 2 (held_of u) (omega arith))

distance_without_fault : (tables : List TableDef) (rule : Rule) → rule_fault tables rule ≡ None → has_distance rule ≡ true
unfolding rule_fault
distance_without_fault tables rule h =
    let a = passed (has_tables tables rule) NoTable _ h in
    let b = passed (has_columns tables rule) NoColumn _ a.1 in
    let d = passed (has_same_kinds tables rule) KindsDiffer _ b.1 in
    let e = passed (has_forms tables rule) WrongShape _ d.1 in
    (passed (has_distance rule) BadDistance _ e.1).0

pub no_fault : (number : ℕ) (fault : Option RuleFault) (later : Option (ℕ × RuleFault)) → fault_or_later number fault later ≡ None → (fault ≡ None)
    × (later ≡ None)
no_fault number (Some fault) later h = cc
no_fault number None later h = (refl, h)

rule_without_fault : (tables : List TableDef) (from : ℕ) (rules : List Rule) (i : ℕ) (rule : Rule) → first_fault tables from rules ≡ None → slice_get rules i
    ≡ Some rule → rule_fault tables rule ≡ None
unfolding first_fault
rule_without_fault tables from [] i rule h is = cc
rule_without_fault tables from (r ∷ rules) zero rule h is = let same : r ≡ rule = cc in subst (λ x. rule_fault tables x
    ≡ None) same (no_fault from (rule_fault tables r) (first_fault tables (from + 1) rules) h).0
rule_without_fault tables from (r ∷ rules) (suc i) rule h is = rule_without_fault tables (from + 1) rules i rule
    (no_fault from (rule_fault tables r) (first_fault tables (from + 1) rules) h).1 is

first_in_book : (few : Bool) (fault : Option (ℕ × RuleFault)) → (if few then fault else Some (MOST_RULES, TooMany)) ≡ None → fault ≡ None
first_in_book true fault h = h
first_in_book false fault h = cc

-- a rule of a book that fits a schema has no fault in it
pub rule_fits : (tables : List TableDef) (rules : List Rule) (i : ℕ) (rule : Rule) → FitsBook tables rules → slice_get rules i ≡ Some rule
    → rule_fault tables rule ≡ None
unfolding book_fault
rule_fits tables rules i rule h is = rule_without_fault tables 0 rules i rule (first_in_book (nat_le (length rules) MOST_RULES) (first_fault tables 0 rules) h)
    is

-- a distance in a book that fits is one that `near` takes
pub distance_fits : (rules : List Rule) (rows : List Held) (i : ℕ) (rule : Rule) → FitTogether rules rows → slice_get rules i ≡ Some rule → has_distance rule
    ≡ true
distance_fits rules rows i rule h is = distance_without_fault h.tables rule (rule_fits h.tables rules i rule h.book is)

-- the literals of a book that fits are within 64 bits
pub literal_within : (k : Option Kind) (v : Value) → is_literal_of k v ≡ true → is_number v ≡ true
literal_within None v h = absurd (false≢true h)
literal_within (Some k) v h = (and_parts (is_of_kind k v) (is_number v) h).1

side_within : (tables : List TableDef) (side : Side) → has_filter tables side ≡ true → is_side_within side ≡ true
side_within tables side h = go side.filter h
  where
    go : (fs : List (ℕ × Value)) → list_all (λ f. is_literal_of (kind_of tables side.table (column.At f.0)) f.1) fs ≡ true → list_all (λ f. is_number f.1) fs
        ≡ true
    go [] h = refl
    go (f ∷ fs) h = let p = and_parts (is_literal_of (kind_of tables side.table (column.At f.0)) f.1) _ h in and_from _ _
        (literal_within (kind_of tables side.table (column.At f.0)) f.1 p.0) (go fs p.1)

within_if_any : (tables : List TableDef) (side : Option Side) → if_any (has_filter tables) side ≡ true → if_any is_side_within side ≡ true
within_if_any tables None h = refl
within_if_any tables (Some side) h = side_within tables side h

rule_within : (tables : List TableDef) (rule : Rule) → has_filters tables rule ≡ true → is_rule_within rule ≡ true
unfolding is_rule_within
rule_within tables rule h =
    let p = and_parts (if_any (has_filter tables) (sides rule).alone) _ h in
    let q = and_parts (if_any (has_filter tables) (sides rule).first) _ p.1 in
    let r = and_parts (if_any (has_filter tables) (sides rule).second) _ q.1 in
    and_from _ _ (within_if_any tables (sides rule).alone p.0) (and_from _ _ (within_if_any tables (sides rule).first q.0)
    (and_from _ _ (within_if_any tables (sides rule).second r.0) (within_if_any tables (sides rule).server r.1)))

filters_without_fault : (tables : List TableDef) (rule : Rule) → rule_fault tables rule ≡ None → has_filters tables rule ≡ true
unfolding rule_fault
filters_without_fault tables rule h =
    let a = passed (has_tables tables rule) NoTable _ h in
    let b = passed (has_columns tables rule) NoColumn _ a.1 in
    let d = passed (has_same_kinds tables rule) KindsDiffer _ b.1 in
    let e = passed (has_forms tables rule) WrongShape _ d.1 in
    let f = passed (has_distance rule) BadDistance _ e.1 in
    (passed (has_filters tables rule) BadFilter _ f.1).0

rules_within : (tables : List TableDef) (from : ℕ) (rules : List Rule) → first_fault tables from rules ≡ None → list_all is_rule_within rules ≡ true
unfolding first_fault
rules_within tables from [] h = refl
rules_within tables from (rule ∷ rules) h =
    let p = no_fault from (rule_fault tables rule) (first_fault tables (from + 1) rules) h in
    and_from _ _ (rule_within tables rule (filters_without_fault tables rule p.0)) (rules_within tables (from + 1) rules p.1)

pub book_within : (tables : List TableDef) (rules : List Rule) → length rules ≤ MOST_RULES → first_fault tables 0 rules ≡ None → IsBook rules
book_within tables rules few h = record { few = few; within = rules_within tables 0 rules h }
