-- The record of a row is read as the row.
use Rattle.std.proofs.Common.{◌≡◌, ℕ, ◌+◌, ◌<◌, ◌^◌, ◌==◌, Bool, true, false, List, [], ◌∷◌, ◌++◌, length, map, Ok, Option, Some, None, ℤ, pos, refl, sym}
use Rattle.std.proofs.Common.{arith, append_assoc}
use Rattle.std.specs.Prelude.{◌≤◌, slice_get, unsigned_abs, unwrap_or}
use Rattle.std.proofs.lemmas.Fmt.{decimal_nonempty}
use Rattle.clr_records.specs.Decimals.{number_of}
use Rattle.clr_layer_text.specs.Wkt.{shape_text}
use Rattle.std.specs.Fmt.{signed_decimal}
use Rattle.std.specs.List.{list_all}
use Rattle.std.proofs.lemmas.Bool.{and_parts, eq-eqb, lt-ltb, ne_eqb}
use Rattle.std.proofs.lemmas.List.{length-append, length-map}
use Rattle.csv.specs.Records.{field_at}
use Rattle.clr_rows.specs.declared.limits.TheConstants.{GREATEST_KEY}
use Rattle.clr_rows.specs.declared.places.Shape.{Shape}
use Rattle.clr_rows.specs.declared.places.Shape.TheVariants.{Bare, At, Line, Chain}
use Rattle.clr_rows.specs.declared.rows.Value.{Value}
use Rattle.clr_rows.specs.declared.tables.Form.{Form}
use Rattle.clr_rows.specs.declared.tables.Form.TheVariants as form
use Rattle.clr_rows.specs.declared.tables.Kind.{Kind}
use Rattle.clr_rows.specs.declared.tables.Kind.TheVariants as kind
use Rattle.clr_rows.specs.declared.tables.TableDef.{TableDef}
use Rattle.clr_rows.specs.Numbers.{is_i64}
use Rattle.clr_rows.specs.Schemas.{are_of_kinds, has_coordinates, is_bad_path, is_key, is_number, is_of_form, is_of_kind, names_of, row_fault}
use Rattle.clr_rows.proofs.SchemaLemmas.{key_of as key_parts, row_fits}
use Rattle.clr_records.specs.Records.{field_of, in_turn}
use Rattle.clr_records.specs.Values.{value_field}
use Rattle.clr_records.proofs.Decimals.{number_again}
use Rattle.clr_records.proofs.ValuesAgain.{value_again}
use Rattle.clr_layer_text.specs.declared.rows.LayerRow.{LayerRow}
use Rattle.clr_layer_text.specs.Layers.{cell_of, header_of, key_in_field, key_text, row_fields, row_of, shape_fields, shape_in, shape_name, value_of}
use Rattle.clr_layer_text.specs.Layers.{whole_row_of}
use Rattle.clr_layer_text.specs.Pieces.{is_empty}
use Rattle.clr_layer_text.proofs.HeaderAgain.{columns_from, shape_behind, written_fields}
use Rattle.clr_layer_text.proofs.ShapeAgain.{shape_again}

-- the field behind a front
field_here : (front : List (List ℕ)) (x : List ℕ) (rest : List (List ℕ)) → field_of (front ++ x ∷ rest) (length front) ≡ x
unfolding field_at
field_here [] x rest = refl
field_here (y ∷ front) x rest = field_here front x rest

values_again : (fields front : List (List ℕ)) (columns : List (List ℕ × Kind)) (values : List Value) (rest : List (List ℕ)) (n : ℕ)
    → length values ≡ length columns → are_of_kinds columns values ≡ true → list_all is_number values ≡ true → fields ≡ front ++ (map value_field values ++ rest)
    → in_turn (λ _ column. value_of column.kind (field_of fields column.at)) n (columns_from (length front) columns) ≡ Ok values
unfolding in_turn
values_again fields front [] [] rest n long of numbers is = refl
values_again fields front [] (value ∷ values) rest n long of numbers is = absurd cc
values_again fields front (column ∷ columns) [] rest n long of numbers is = absurd cc
values_again fields front (column ∷ columns) (value ∷ values) rest n long of numbers is =
    let o = and_parts (is_of_kind column.1 value) (are_of_kinds columns values) of in
    let m = and_parts (is_number value) (list_all is_number values) numbers in
    let text = value_field value in
    let at : field_of fields (length front) ≡ text = rw is (field_here front text (map value_field values ++ rest)) in
    let next : fields ≡ (front ++ text ∷ []) ++ (map value_field values ++ rest) =
    rw is (sym (append_assoc front (text ∷ []) (map value_field values ++ rest))) in
    let more : length (front ++ text ∷ []) ≡ length front + 1 = length-append front (text ∷ []) in
    let others = values_again fields (front ++ text ∷ []) columns values rest (n + 1) (omega (arith, long)) o.1 m.1 next in
    rw (at, value_again column.1 value o.0 m.0, rw more at others) refl

low_key : (n : ℕ) → n ≤ unsigned_abs GREATEST_KEY → is_i64 (pos n) ≡ true
low_key n le = lt-ltb n (2 ^ 63) (omega arith)

some_key : (z : ℤ) → is_key z ≡ true → key_in_field (signed_decimal z) ≡ Ok (Some z)
some_key z e =
    let k = key_parts z e in
    let le = k.3 in
    let lt : k.0 < 2 ^ 64 = omega arith in
    let some = decimal_nonempty k.0 lt in
    let full : is_empty (signed_decimal z) ≡ false = rw k.1 (ne_eqb _ 0 (λ e. omega arith)) in
    let number : number_of (signed_decimal z) ≡ Some z = rw k.1 (number_again (pos k.0) (low_key k.0 le)) in
    rw (full, number) refl

key_again : (key : Option ℤ) → is_key (unwrap_or key (pos 1)) ≡ true → key_in_field (key_text key) ≡ Ok key
key_again None e = refl
key_again (Some z) e = some_key z e

shape_field : (rounded : Bool) (front : List (List ℕ)) (wanted : Form) (shape : Shape) → is_of_form wanted shape ≡ true → has_coordinates shape ≡ true
    → is_bad_path shape ≡ false
    → shape_in rounded (shape_behind (length front) wanted) (front ++ shape_fields shape) ≡ Ok shape
shape_field rounded front form.Bare Bare of low good = refl
shape_field rounded front form.Point Bare of low good = absurd cc
shape_field rounded front form.Segment Bare of low good = absurd cc
shape_field rounded front form.Path Bare of low good = absurd cc
shape_field rounded front form.Point
    (At p) of low good = rw (field_here front (shape_text (At p)) []) (shape_again rounded form.Point (At p) of low good (λ e. absurd cc))
shape_field rounded front form.Bare (At p) of low good = absurd cc
shape_field rounded front form.Segment (At p) of low good = absurd cc
shape_field rounded front form.Path (At p) of low good = absurd cc
shape_field rounded front form.Segment (Line p q) of low good =
    rw (field_here front (shape_text (Line p q)) []) (shape_again rounded form.Segment (Line p q) of low good (λ e. absurd cc))
shape_field rounded front form.Bare (Line p q) of low good = absurd cc
shape_field rounded front form.Point (Line p q) of low good = absurd cc
shape_field rounded front form.Path (Line p q) of low good = absurd cc
shape_field rounded front form.Path (Chain ps)
    of low good = rw (field_here front (shape_text (Chain ps)) []) (shape_again rounded form.Path (Chain ps) of low good (λ e. absurd cc))
shape_field rounded front form.Bare (Chain ps) of low good = absurd cc
shape_field rounded front form.Point (Chain ps) of low good = absurd cc
shape_field rounded front form.Segment (Chain ps) of low good = absurd cc

-- a row has a field for its shape just where the header names one
same_width : (wanted : Form) (shape : Shape) → is_of_form wanted shape ≡ true → length (shape_fields shape) ≡ length (shape_name wanted)
same_width form.Bare Bare of = refl
same_width form.Point Bare of = absurd cc
same_width form.Segment Bare of = absurd cc
same_width form.Path Bare of = absurd cc
same_width form.Bare (At p) of = absurd cc
same_width form.Point (At p) of = refl
same_width form.Segment (At p) of = absurd cc
same_width form.Path (At p) of = absurd cc
same_width form.Bare (Line p q) of = absurd cc
same_width form.Point (Line p q) of = absurd cc
same_width form.Segment (Line p q) of = refl
same_width form.Path (Line p q) of = absurd cc
same_width form.Bare (Chain ps) of = absurd cc
same_width form.Point (Chain ps) of = absurd cc
same_width form.Segment (Chain ps) of = absurd cc
same_width form.Path (Chain ps) of = refl

width_again : (table : TableDef) (r : LayerRow) → length r.row.values ≡ length table.columns → is_of_form table.shape r.row.shape ≡ true
    → (length (row_fields r) == length (header_of table)) ≡ true
width_again table r long of =
    eq-eqb _ _ (omega (
      arith,
      long,
      same_width table.shape r.row.shape of,
      length-append (map value_field r.row.values) (shape_fields r.row.shape),
      length-append (names_of table.columns) (shape_name table.shape),
      length-map r.row.values value_field,
      length-map table.columns (λ c. c.0),
    ))

-- the record of a row that fits its table is read as the row
pub row_again : (tables : List TableDef) (at : ℕ) (table : TableDef) (rounded : Bool) (r : LayerRow) → slice_get tables at ≡ Some table
    → row_fault tables (cell_of at r.key) r.row ≡ None
    → row_of tables at rounded (written_fields table) (row_fields r) ≡ Ok r
unfolding field_at whole_row_of
row_again tables at table rounded r is fit =
    let f = row_fits tables (cell_of at r.key) r.row fit table is in
    let front = key_text r.key ∷ map value_field r.row.values in
    let wide : 1 + length (names_of table.columns) ≡ length front =
    omega (arith, f.count, length-map r.row.values value_field, length-map table.columns (λ c. c.0)) in
    let shape : shape_in rounded (shape_behind (1 + length (names_of table.columns)) table.shape) (row_fields r) ≡ Ok r.row.shape =
    rw wide (shape_field rounded front table.shape r.row.shape f.form f.coordinates f.vertices) in
    rw (
      width_again table r f.count f.form,
      key_again r.key f.key,
      values_again (row_fields r) (key_text r.key ∷ []) table.columns r.row.values (shape_fields r.row.shape) 0 f.count f.kinds f.numbers refl,
      shape,
      fit,
    ) refl
