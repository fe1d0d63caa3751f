-- The header that is written says where the fields of rows stand.
use Rattle.std.proofs.Common.{◌≡◌, ℕ, zero, suc, ◌+◌, true, false, not, List, [], ◌∷◌, ◌++◌, length, drop, Ok, Some, None, refl, sym}
use Rattle.std.proofs.Common.{arith, append_assoc, Option}
use Rattle.std.specs.Prelude.{slice_get}
use Rattle.std.specs.List.{list_any, position_or_len}
use Rattle.std.specs.Str.{bytes_eq}
use Rattle.std.proofs.lemmas.Bool.{and_parts, lt-ltb, not-true, or_parts}
use Rattle.std.proofs.lemmas.List.{length-append}
use Rattle.std.proofs.lemmas.Option.{slice_get_within}
use Rattle.std.proofs.lemmas.Slice.Eq.{bytes_eq-Decides}
use Rattle.clr_rows.specs.declared.limits.TheConstants.{KEY}
use Rattle.clr_rows.specs.declared.tables.Form.{Form}
use Rattle.clr_rows.specs.declared.tables.Form.TheVariants as form
use Rattle.clr_rows.specs.declared.tables.Kind.{Kind}
use Rattle.clr_rows.specs.declared.tables.TableDef.{TableDef}
use Rattle.clr_rows.specs.Schemas.{are_distinct, names_of}
use Rattle.clr_records.specs.Records.{in_turn}
use Rattle.clr_layer_text.specs.declared.headings.Heading.{Heading}
use Rattle.clr_layer_text.specs.declared.headings.ShapeHeading.{ShapeHeading}
use Rattle.clr_layer_text.specs.declared.limits.TheConstants.{SHAPE}
use Rattle.clr_layer_text.specs.Layers.{Fields, column_of, fields_in, header_of, heading_of, shape_heading_of, shape_name}

-- a name that equals no later one
apart : (name : List ℕ) (names : List (List ℕ)) (i : ℕ) (other : List ℕ) → list_any (bytes_eq name) names ≡ false → slice_get names i ≡ Some other
    → bytes_eq name other ≡ false
apart name [] i other none is = cc
apart name (n ∷ ns) zero other none is = let h = or_parts (bytes_eq name n) (list_any (bytes_eq name) ns) none in cc
apart name (n ∷ ns) (suc i) other none is = apart name ns i other (or_parts (bytes_eq name n) (list_any (bytes_eq name) ns) none).1 is

-- where names differ, each is found at its place, and nowhere behind it
found : (names : List (List ℕ)) (i : ℕ) (name : List ℕ) → are_distinct names ≡ true → slice_get names i ≡ Some name
    → (position_or_len (λ other. bytes_eq other name) names ≡ i) × (list_any (bytes_eq name) (drop (i + 1) names) ≡ false)
found [] i name h is = cc
found (n ∷ ns) zero name h is =
    let e : n ≡ name = cc in
    let a = and_parts (not (list_any (bytes_eq n) ns)) (are_distinct ns) h in
    let same = (bytes_eq-Decides n name).1 e in
    (rw same refl, rw (← e) (not-true (list_any (bytes_eq n) ns) a.0))
found (n ∷ ns) (suc i) name h is =
    let a = and_parts (not (list_any (bytes_eq n) ns)) (are_distinct ns) h in
    let other = apart n ns i name (not-true (list_any (bytes_eq n) ns) a.0) is in
    let rest = found ns i name a.1 is in
    let next : suc i + 1 ≡ suc (i + 1) = omega arith in
    (rw (other, rest.0) (omega arith), rw next rest.1)

pub heading_again : (names : List (List ℕ)) (i : ℕ) (name : List ℕ) → are_distinct names ≡ true → slice_get names i ≡ Some name → heading_of names name ≡ Ok i
heading_again names i name h is =
    let t = found names i name h is in
    rw (t.0, lt-ltb i (length names) (slice_get_within names i name is), t.1) refl

-- what stands behind a front
pub here : {A : Type 0} (front : List A) (x : A) (rest : List A) → slice_get (front ++ x ∷ rest) (length front) ≡ Some x
here [] x rest = refl
here (y ∷ front) x rest = here front x rest

-- the columns in their order, from a place on
abbrev pub columns_from : ℕ → List (List ℕ × Kind) → List Heading
columns_from at [] = []
columns_from at (column ∷ columns) = record { kind = column.1; at = at } ∷ columns_from (at + 1) columns

columns_again : (names front : List (List ℕ)) (columns : List (List ℕ × Kind)) (rest : List (List ℕ)) (n : ℕ) → are_distinct names ≡ true
    → names ≡ front ++ (names_of columns ++ rest) → in_turn (λ _. column_of names) n columns ≡ Ok (columns_from (length front) columns)
unfolding in_turn
columns_again names front [] rest n h is = refl
columns_again names front (column ∷ columns) rest n h is =
    let at : slice_get names (length front) ≡ Some column.0 = rw is (here front column.0 (names_of columns ++ rest)) in
    let next : names ≡ (front ++ column.0 ∷ []) ++ (names_of columns ++ rest) = rw is (sym (append_assoc front (column.0 ∷ []) (names_of columns ++ rest))) in
    let long : length (front ++ column.0 ∷ []) ≡ length front + 1 = length-append front (column.0 ∷ []) in
    rw (heading_again names (length front) column.0 h at, columns_again names (front ++ column.0 ∷ []) columns rest (n + 1) h next, long) refl

-- where the shapes stand behind as many columns
abbrev pub shape_behind : ℕ → Form → Option ShapeHeading
shape_behind at form.Bare = None
shape_behind at wanted = Some (record { form = wanted; at = at })

-- where the fields of rows stand in a layer that is written
abbrev pub written_fields : TableDef → Fields
written_fields table = record {
  width = length (header_of table);
  key = 0;
  columns = columns_from 1 table.columns;
  shape = shape_behind (1 + length (names_of table.columns)) table.shape;
}

behind_key : (columns : List (List ℕ)) (x : List ℕ) → slice_get (KEY.now ∷ (columns ++ x ∷ [])) (1 + length columns) ≡ Some x
behind_key columns x = let next : 1 + length columns ≡ suc (length columns) = omega arith in rw next (here columns x [])

shape_at : (columns : List (List ℕ)) (wanted : Form) → are_distinct (KEY.now ∷ (columns ++ shape_name wanted)) ≡ true
    → shape_heading_of (KEY.now ∷ (columns ++ shape_name wanted)) wanted ≡ Ok (shape_behind (1 + length columns) wanted)
shape_at columns form.Bare h = refl
shape_at columns form.Point h = rw (heading_again (KEY.now ∷ (columns ++ SHAPE.now ∷ [])) (1 + length columns) SHAPE.now h (behind_key columns SHAPE.now)) refl
shape_at columns form.Segment h = rw (heading_again (KEY.now ∷ (columns ++ SHAPE.now ∷ [])) (1 + length columns) SHAPE.now h (behind_key columns SHAPE.now))
    refl
shape_at columns form.Path h = rw (heading_again (KEY.now ∷ (columns ++ SHAPE.now ∷ [])) (1 + length columns) SHAPE.now h (behind_key columns SHAPE.now)) refl

pub header_again : (table : TableDef) → are_distinct (header_of table) ≡ true → fields_in (header_of table) table ≡ Ok (written_fields table)
unfolding fields_in
header_again table h =
    rw (
      heading_again (header_of table) 0 KEY.now h refl,
      columns_again (header_of table) (KEY.now ∷ []) table.columns (shape_name table.shape) 0 h refl,
      shape_at (names_of table.columns) table.shape h,
    ) refl
