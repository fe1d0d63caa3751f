-- A need that a content breaks is one that its rule can have over the schema.
use Rattle.std.proofs.Common.{◌≡◌, ◌⊎◌, inl, inr, ◌≤◌, ◌<◌, ℕ, suc, Bool, true, false, cond, List, length, Option, Some, None, refl, sym, ap, subst, ◌∙◌, arith}
use Rattle.std.specs.Prelude.{◌&&◌, ◌==◌, max, min, slice_get, if◌then◌else◌}
use Rattle.std.specs.Ordering.{MatchOrdering, int_cmp, nat_cmp, ordering_then}
use Rattle.std.specs.declared.cmp.Ordering.{Ordering}
use Rattle.std.specs.declared.cmp.Ordering.TheVariants.{Less, Equal, Greater}
use Rattle.std.proofs.lemmas.Bool.{and_parts, eqb-true, false≢true}
use Rattle.std.proofs.lemmas.Cmp.{ranked}
use Rattle.clr_rows.specs.declared.cells.CellId.{CellId}
use Rattle.clr_rows.specs.declared.limits.TheConstants.{MOST_VERTICES}
use Rattle.clr_rows.specs.declared.tables.TableDef.{TableDef}
use Rattle.clr_rows.specs.Cells.{cell_cmp}
use Rattle.clr_rows.specs.Contents.{Content, row_at}
use Rattle.clr_rows.specs.Held.{Held}
use Rattle.clr_rows.specs.Parts.{parts_of}
use Rattle.clr_rows.specs.Schemas.{FitsSchema, cell_fault, row_fault}
use Rattle.clr_rows.proofs.SchemaLemmas.{cell_named, fits_table, row_parts}
use Rattle.clr_rules.specs.declared.needs.Ask.{Ask}
use Rattle.clr_rules.specs.declared.needs.Broken.{Broken}
use Rattle.clr_rules.specs.declared.rules.Rule.{Rule}
use Rattle.clr_rules.specs.declared.rules.Rule.TheVariants.{Unique, Partner, EndNode, Crossing, Near}
use Rattle.clr_rules.specs.declared.sides.Side.{Side}
use Rattle.clr_rules.specs.Calls.{are_related, are_subjects, are_subjects_of, calls, is_plain}
use Rattle.clr_rules.specs.Needs.{IsBroken, Stands, StandsBeside, ask_of, broken_at}
use Rattle.clr_rules.specs.Sides.{are_of, is_of, is_of_side, sides}
use Rattle.clr_rules.proofs.AskLemmas.{IsPart, first_part_by, plain_parts, second_part_by}
use Rattle.clr_rule_text.specs.Known.{greater_table, lesser_table}
use Rattle.clr_office_writing.specs.KnownFits.{FitsKind, FitsRule, FitsTable, HasParts, IsOfOne, IsOfTwo}

-- the table of a lesser cell isn't greater
lesser_table_of : (c d : CellId) → cell_cmp c d ≡ Less → c.table ≤ d.table
lesser_table_of c d less = by (nat_cmp c.table d.table) (int_cmp c.key d.key) (ranked c.table d.table (nat_cmp c.table d.table) refl) less
  where
    by : (r rest : Ordering) → MatchOrdering r (c.table < d.table) (c.table ≡ d.table) (d.table < c.table) → ordering_then r rest ≡ Less → c.table ≤ d.table
    by Less rest ranks e = omega (arith, ranks)
    by Equal rest ranks e = omega (arith, ranks)
    by Greater rest ranks e = absurd cc

-- a row of a side is in its table
in_table : (side : Side) (s : Held) → is_of_side side s ≡ true → s.0.table ≡ side.table
unfolding is_of_side
in_table side s e = eqb-true s.0.table side.table (and_parts (s.0.table == side.table) _ e).0

-- two rows of two sides, in either arrangement, of which the first is at a lesser cell
tables_of_two : (a b : Side) (s t : Held) → are_of (Some a) (Some b) s t ≡ true → s.0.table ≤ t.0.table → (s.0.table ≡ min a.table b.table)
    × (t.0.table ≡ max a.table b.table)
tables_of_two a b s t e le = by (is_of_side a s && is_of_side b t) refl e
  where
    by : (first : Bool) → (is_of_side a s && is_of_side b t) ≡ first → (if first then true else is_of_side a t && is_of_side b s) ≡ true
        → (s.0.table ≡ min a.table b.table) × (t.0.table ≡ max a.table b.table)
    by true is h =
        let p = and_parts (is_of_side a s) (is_of_side b t) is in
        let of_a = in_table a s p.0 in
        let of_b = in_table b t p.1 in
        (omega (arith, of_a, of_b, le), omega (arith, of_a, of_b, le))
    by false is h =
        let p = and_parts (is_of_side a t) (is_of_side b s) h in
        let of_a = in_table a t p.0 in
        let of_b = in_table b s p.1 in
        (omega (arith, of_a, of_b, le), omega (arith, of_a, of_b, le))

-- two rows of one side
tables_of_one : (a : Side) (s t : Held) → are_of (Some a) (Some a) s t ≡ true → (s.0.table ≡ a.table) × (t.0.table ≡ a.table)
tables_of_one a s t e = by (is_of_side a s && is_of_side a t) refl e
  where
    by : (first : Bool) → (is_of_side a s && is_of_side a t) ≡ first → (if first then true else is_of_side a t && is_of_side a s) ≡ true
        → (s.0.table ≡ a.table) × (t.0.table ≡ a.table)
    by true is h = let p = and_parts (is_of_side a s) (is_of_side a t) is in (in_table a s p.0, in_table a t p.1)
    by false is h = let p = and_parts (is_of_side a t) (is_of_side a s) h in (in_table a s p.1, in_table a t p.0)

module _ (tables : List TableDef) (s : Held) (fit : row_fault tables s.0 s.1 ≡ None) where
  cell_stands : cell_fault tables s.0 ≡ None
  cell_stands = let t = fits_table tables s.0 s.1 fit in cell_named tables s.0 t.0 t.1 t.2.key

  -- a part of a path that is there
  part_within : (n : ℕ) → IsPart (length (parts_of s.1.shape)) n → (1 ≤ n) × (n < MOST_VERTICES)
  part_within n part = let few = row_parts tables s.0 s.1 fit in (omega (arith, part.2), omega (arith, part.1, part.2, few))

-- a need by its ask and its rows
module _ (tables : List TableDef) (ask : Ask) (s : Held) (fit : row_fault tables s.0 s.1 ≡ None) where
  record Fitting (rule : Rule) (t : Option Held) : Type 0 where
    pub first : FitsTable tables (lesser_table rule) s.0
    pub kind : FitsKind tables rule (broken_at ask s t)
    pub parts : HasParts (broken_at ask s t)

  at_table : (table : ℕ) → s.0.table ≡ table → FitsTable tables table s.0
  at_table table is = record { stands = cell_stands tables s fit; is = is }

  -- rows that are asked about as a whole
  whole_parts : (t : Option Held) → is_plain ask ≡ true → HasParts (broken_at ask s t)
  whole_parts t plain =
      let whole = plain_parts ask plain in
      record {
        some_first = omega (arith, whole.0);
        first = omega (arith, whole.0);
        some_second = omega (arith, whole.1);
        second = omega (arith, whole.1);
      }

  -- one row alone
  one_fits : (rule : Rule) → are_subjects rule ask s None ≡ true → Fitting rule None
  unfolding are_subjects
  one_fits (Unique subject columns) e = absurd (false≢true (and_parts (is_plain ask) _ e).1)
  one_fits (Crossing a b server) e = absurd (false≢true (and_parts (is_plain ask) _ e).1)
  one_fits (Near a b d) e = absurd (false≢true (and_parts (is_plain ask) _ e).1)
  one_fits (Partner subject columns server server_columns) e =
      let p = and_parts (is_plain ask) _ e in
      record { first = at_table subject.table (in_table subject s p.1); kind = record { alone = refl; whole = p.0 }; parts = whole_parts None p.0 }
  one_fits (EndNode subject tip server) e =
      let p = and_parts (is_plain ask) _ e in
      record { first = at_table subject.table (in_table subject s p.1); kind = record { alone = refl; whole = p.0 }; parts = whole_parts None p.0 }

  -- two rows
  module _ (t : Held) (other : row_fault tables t.0 t.1 ≡ None) (ascend : cell_cmp s.0 t.0 ≡ Less) where
    of_two : (table : ℕ) → t.0.table ≡ table → IsOfTwo tables table (broken_at ask s (Some t))
    of_two table is = record { cell = t.0; second = refl; fits = record { stands = cell_stands tables t other; is = is }; ascend = ascend }

    two_fit : (rule : Rule) → are_subjects rule ask s (Some t) ≡ true → Fitting rule (Some t)
    unfolding are_subjects
    two_fit (Unique subject columns) e =
        let p = and_parts (are_of (Some subject) (Some subject) s t) _ e in
        let plain = (and_parts (is_plain ask) _ p.1).0 in
        let found = tables_of_one subject s t p.0 in
        record { first = at_table subject.table found.0; kind = (of_two subject.table found.1, plain); parts = whole_parts (Some t) plain }
    two_fit (Near a b d) e =
        let p = and_parts (are_of (Some a) (Some b) s t) _ e in
        let plain = (and_parts (is_plain ask) _ p.1).0 in
        let found = tables_of_two a b s t p.0 (lesser_table_of s.0 t.0 ascend) in
        record {
          first = at_table (min a.table b.table) found.0;
          kind = (of_two (max a.table b.table) found.1, plain);
          parts = whole_parts (Some t) plain;
        }
    two_fit (Crossing a b server) e =
        let p = and_parts (are_of (Some a) (Some b) s t) _ e in
        let found = tables_of_two a b s t p.0 (lesser_table_of s.0 t.0 ascend) in
        let one = part_within tables s fit ask.first_part (first_part_by (Crossing a b server) ask s (Some t) e) in
        let two = part_within tables t other ask.second_part (second_part_by (Crossing a b server) ask s t e) in
        record {
          first = at_table (min a.table b.table) found.0;
          kind = of_two (max a.table b.table) found.1;
          parts = record { some_first = one.0; first = one.1; some_second = two.0; second = two.1 };
        }
    two_fit (Partner subject columns server server_columns) e = absurd (false≢true e)
    two_fit (EndNode subject tip server) e = absurd (false≢true e)

  -- a second row, if there is one
  fits_by : (view : Content) → FitsSchema tables view → (rule : Rule) (t : Option Held) → StandsBeside (row_at view) s t → are_subjects rule ask s t ≡ true
      → Fitting rule t
  fits_by view rows rule None beside e = one_fits rule e
  fits_by view rows rule (Some t) beside e = two_fit t (rows t.0 t.1 beside.0) beside.1 rule e

some_rule : (found : Option Rule) (ask : Ask) (s : Held) (t : Option Held) → are_subjects_of found ask s t ≡ true → (rule : Rule) × (found ≡ Some rule)
    × (are_subjects rule ask s t ≡ true)
some_rule None ask s t e = absurd (false≢true e)
some_rule (Some rule) ask s t e = (rule, refl, e)

-- a need that a content breaks, whose rows fit the schema
pub broken_fits : (tables : List TableDef) (rules : List Rule) (content : Content) → FitsSchema tables content → (b : Broken)
    → IsBroken rules (row_at content) b
    → FitsRule tables rules b
unfolding calls
broken_fits tables rules content rows b broken =
    let ask = ask_of b in
    let s = broken.first in
    let found = some_rule (slice_get rules b.rule) ask s broken.second broken.need.they_call in
    let fits = fits_by tables ask s (rows s.0 s.1 broken.need.stands) content rows found.0 broken.second broken.need.beside found.2 in
    subst (λ (c : Broken). FitsRule tables rules c) (sym broken.named)
    (record { of_rule = found.0; is = found.1; first = fits.first; kind = fits.kind; parts = fits.parts })
