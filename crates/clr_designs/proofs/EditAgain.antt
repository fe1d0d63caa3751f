-- The record of an edit that fits the schema is read as the edit.
use Rattle.std.proofs.Common.{◌≡◌, ℕ, suc, ◌+◌, ◌-◌, ◌*◌, ◌/◌, ◌%◌, ◌==◌, ◌&&◌, true, false, List, [], ◌∷◌, ◌++◌, length, map, Ok, None, ℤ}
use Rattle.std.proofs.Common.{refl, sym, arith, append_assoc}
use Rattle.std.specs.Prelude.{codes, nat_le}
use Rattle.std.specs.Fmt.{signed_decimal}
use Rattle.std.specs.List.{flat_map, list_all}
use Rattle.std.proofs.Math.Seq.{drop-append_seam}
use Rattle.std.proofs.lemmas.Bool.{and_parts, eq-eqb, le-leb, not-false}
use Rattle.std.proofs.lemmas.List.{length-append, length-map}
use Rattle.csv.specs.Records.{field_at}
use Rattle.clr_rows.specs.declared.cells.CellId.{CellId}
use Rattle.clr_rows.specs.declared.limits.TheConstants.{LEAST_VERTICES, MOST_VERTICES}
use Rattle.clr_rows.specs.declared.places.Place.{Place}
use Rattle.clr_rows.specs.declared.places.Shape.{Shape}
use Rattle.clr_rows.specs.declared.places.Shape.TheVariants.{Bare, At, Line, Chain}
use Rattle.clr_rows.specs.declared.rows.Row.{Row}
use Rattle.clr_rows.specs.declared.rows.Value.{Value}
use Rattle.clr_rows.specs.declared.tables.Form.{Form}
use Rattle.clr_rows.specs.declared.tables.Form.TheVariants as form
use Rattle.clr_rows.specs.declared.tables.Kind.{Kind}
use Rattle.clr_rows.specs.declared.tables.TableDef.{TableDef}
use Rattle.clr_rows.specs.Numbers.{is_i64}
use Rattle.clr_rows.specs.Schemas.{are_of_kinds, cell_fault, has_coordinates, is_bad_path, is_coordinate, is_number, is_of_form, is_of_kind, is_place}
use Rattle.clr_rows.specs.Schemas.{row_fault, schema_fault}
use Rattle.clr_rows.proofs.SchemaLemmas as schema
use Rattle.clr_change.specs.declared.edits.Edit.{Edit}
use Rattle.clr_change.specs.declared.edits.Edit.TheVariants as edit
use Rattle.clr_records.specs.Records.{field_of, in_turn}
use Rattle.clr_records.specs.Values.{value_field}
use Rattle.clr_records.proofs.Decimals.{number_again}
use Rattle.clr_records.proofs.ValuesAgain.{value_again}
use Rattle.clr_lines.specs.Rows.{place_fields, shape_fields}
use Rattle.clr_scripts.specs.Edits.{can_have_coordinates, edit_in, edit_of, place_in, place_of, row_can_have_fields, row_of, shape_of, values_of}
use Rattle.clr_scripts.specs.Edits.{vertices_of, whole_number}
use Rattle.clr_designs.specs.Scripts.{edit_fields}
use Rattle.clr_designs.specs.ReadBack.{Fits}

-- numbers ------------------------------------------------------------------------------------------

whole_again : (z : ℤ) → is_i64 z ≡ true → whole_number (signed_decimal z) ≡ Ok z
whole_again z e = rw (number_again z e) refl

-- fields behind a front ------------------------------------------------------------------------------

field_behind : (front rest : List (List ℕ)) (k : ℕ) → field_of (front ++ rest) (length front + k) ≡ field_of rest k
unfolding field_at
field_behind [] rest k = let same : 0 + k ≡ k = omega arith in rw same refl
field_behind (f ∷ front) rest k = let same : suc (length front) + k ≡ suc (length front + k) = omega arith in rw same (field_behind front rest k)

-- a field at a place that is so far behind a front
at : (front rest : List (List ℕ)) (i k : ℕ) → i ≡ length front + k → field_of (front ++ rest) i ≡ field_of rest k
at front rest i k is = rw is (field_behind front rest k)

-- values -------------------------------------------------------------------------------------------

values_again : (fields front : List (List ℕ)) (columns : List (List ℕ × Kind)) (values : List Value) (rest : List (List ℕ))
    → length values ≡ length columns → are_of_kinds columns values ≡ true → list_all is_number values ≡ true → fields ≡ front
    ++ (map value_field values ++ rest)
    → values_of columns fields (length front) ≡ Ok values
unfolding in_turn field_at
values_again fields front [] [] rest long of numbers is = refl
values_again fields front [] (value ∷ values) rest long of numbers is = absurd cc
values_again fields front (column ∷ columns) [] rest long of numbers is = absurd cc
values_again fields front (column ∷ columns) (value ∷ values) rest long of numbers is =
    let o = and_parts (is_of_kind column.1 value) (are_of_kinds columns values) of in
    let m = and_parts (is_number value) (list_all is_number values) numbers in
    let text = value_field value in
    let here : field_of fields (length front) ≡ text = rw is (at front (text ∷ (map value_field values ++ rest)) (length front) 0 (omega arith)) in
    let next : fields ≡ (front ++ text ∷ []) ++ (map value_field values ++ rest) =
    rw is (sym (append_assoc front (text ∷ []) (map value_field values ++ rest))) in
    let more : length (front ++ text ∷ []) ≡ length front + 1 = length-append front (text ∷ []) in
    let others = values_again fields (front ++ text ∷ []) columns values rest (omega (arith, long)) o.1 m.1 next in
    rw (here, value_again column.1 value o.0 m.0, rw more at others) refl

-- shapes -------------------------------------------------------------------------------------------

place_again : (p : Place) → is_place p ≡ true → place_in (signed_decimal p.x) (signed_decimal p.y) ≡ Ok p
unfolding place_in
place_again p e =
    let t = and_parts (is_coordinate p.x) (is_coordinate p.y) e in
    rw (whole_again p.x (schema.coordinate_within p.x t.0), whole_again p.y (schema.coordinate_within p.y t.1)) refl

-- a place in two fields behind a front
place_behind : (front rest : List (List ℕ)) (p : Place) (i k : ℕ) → i ≡ length front + k → field_of rest k ≡ signed_decimal p.x → field_of rest (k + 1)
    ≡ signed_decimal p.y
    → is_place p ≡ true → place_of (front ++ rest) i ≡ Ok p
place_behind front rest p i k is x y e =
    let second : i + 1 ≡ length front + (k + 1) = omega (arith, is) in
    rw (at front rest i k is, at front rest (i + 1) (k + 1) second, x, y) (place_again p e)

vertices_again : (ps : List Place) → list_all is_place ps ≡ true → vertices_of (flat_map place_fields ps) ≡ Ok ps
unfolding vertices_of
vertices_again [] e = refl
vertices_again (p ∷ ps) e =
    let t = and_parts (is_place p) (list_all is_place ps) e in
    rw (place_again p t.0, vertices_again ps t.1) refl

shape_again : (wanted : Form) (front : List (List ℕ)) (shape : Shape) (i : ℕ) → i ≡ length front → is_of_form wanted shape ≡ true → has_coordinates shape ≡ true
    → shape_of wanted (front ++ shape_fields shape) i ≡ Ok shape
unfolding field_at
shape_again form.Bare front Bare i is of low = refl
shape_again form.Point front Bare i is of low = absurd cc
shape_again form.Segment front Bare i is of low = absurd cc
shape_again form.Path front Bare i is of low = absurd cc
shape_again form.Bare front (At p) i is of low = absurd cc
shape_again form.Point front (At p) i is of low = rw (place_behind front (place_fields p) p i 0 (omega (arith, is)) refl refl low) refl
shape_again form.Segment front (At p) i is of low = absurd cc
shape_again form.Path front (At p) i is of low = absurd cc
shape_again form.Bare front (Line p q) i is of low = absurd cc
shape_again form.Point front (Line p q) i is of low = absurd cc
shape_again form.Segment front (Line p q) i is of low =
    let t = and_parts (is_place p) (is_place q) low in
    let fields = place_fields p ++ place_fields q in
    rw (place_behind front fields p i 0 (omega (arith, is)) refl refl t.0, place_behind front fields q (i + 2) 2 (omega (arith, is)) refl refl t.1) refl
shape_again form.Path front (Line p q) i is of low = absurd cc
shape_again form.Bare front (Chain ps) i is of low = absurd cc
shape_again form.Point front (Chain ps) i is of low = absurd cc
shape_again form.Segment front (Chain ps) i is of low = absurd cc
shape_again form.Path front (Chain ps) i is of low = rw (is, drop-append_seam front (flat_map place_fields ps), vertices_again ps low) refl

-- the count of fields ------------------------------------------------------------------------------

count_of_vertices : (ps : List Place) → length (flat_map place_fields ps) ≡ 2 * length ps
count_of_vertices [] = refl
count_of_vertices (p ∷ ps) = omega (arith, count_of_vertices ps)

count_of_path : (n k : ℕ) → n ≡ 2 * k → (nat_le LEAST_VERTICES k && nat_le k MOST_VERTICES) ≡ true → can_have_coordinates form.Path n ≡ true
count_of_path n k is good =
    let t = and_parts (nat_le LEAST_VERTICES k) (nat_le k MOST_VERTICES) good in
    let even : (n % 2 == 0) ≡ true = eq-eqb (n % 2) 0 (omega (arith, is)) in
    let half : n / 2 ≡ k = omega (arith, is) in
    rw (even, half, t.0, t.1) refl

count_again : (wanted : Form) (shape : Shape) → is_of_form wanted shape ≡ true → is_bad_path shape ≡ false
    → can_have_coordinates wanted (length (shape_fields shape)) ≡ true
count_again form.Bare Bare of good = refl
count_again form.Point Bare of good = absurd cc
count_again form.Segment Bare of good = absurd cc
count_again form.Path Bare of good = absurd cc
count_again form.Bare (At p) of good = absurd cc
count_again form.Point (At p) of good = refl
count_again form.Segment (At p) of good = absurd cc
count_again form.Path (At p) of good = absurd cc
count_again form.Bare (Line p q) of good = absurd cc
count_again form.Point (Line p q) of good = absurd cc
count_again form.Segment (Line p q) of good = refl
count_again form.Path (Line p q) of good = absurd cc
count_again form.Bare (Chain ps) of good = absurd cc
count_again form.Point (Chain ps) of good = absurd cc
count_again form.Segment (Chain ps) of good = absurd cc
count_again form.Path (Chain ps) of good = count_of_path (length (flat_map place_fields ps)) (length ps) (count_of_vertices ps) (not-false _ good)

-- rows ---------------------------------------------------------------------------------------------

-- the fields of a row behind three others
abbrev behind : List ℕ → List ℕ → List ℕ → Row → List (List ℕ)
behind a b d row = a ∷ b ∷ d ∷ (map value_field row.values ++ shape_fields row.shape)

three_again : (a b d : List ℕ) (row : Row) → nat_le 3 (length (behind a b d row)) ≡ true
three_again a b d row = le-leb 3 (length (behind a b d row)) (omega arith)

fields_again : (table : TableDef) (a b d : List ℕ) (row : Row) → length row.values ≡ length table.columns
    → can_have_coordinates table.shape (length (shape_fields row.shape)) ≡ true
    → row_can_have_fields table (length (behind a b d row)) ≡ true
fields_again table a b d row count coordinates =
    let long : length (behind a b d row) ≡ 3 + length table.columns + length (shape_fields row.shape) =
    omega (arith, count, length-append (map value_field row.values) (shape_fields row.shape), length-map row.values value_field) in
    let rest : length (behind a b d row) - (3 + length table.columns) ≡ length (shape_fields row.shape) = omega (arith, long) in
    rw (le-leb (3 + length table.columns) (length (behind a b d row)) (omega (arith, long)), rest) coordinates

row_again : (table : TableDef) (a b d : List ℕ) (cell : CellId) (row : Row) → schema.Fits table cell row → row_of table (behind a b d row) ≡ Ok row
unfolding row_of
row_again table a b d cell row fits =
    let front = a ∷ b ∷ d ∷ map value_field row.values in
    let long : 3 + length table.columns ≡ length front = omega (arith, fits.count, length-map row.values value_field) in
    rw (
      values_again (behind a b d row) (a ∷ b ∷ d ∷ []) table.columns row.values (shape_fields row.shape) fits.count fits.kinds fits.numbers refl,
      shape_again table.shape front row.shape (3 + length table.columns) long fits.form fits.coordinates,
    ) refl

-- edits --------------------------------------------------------------------------------------------

module _ (tables : List TableDef) (cell : CellId) (row : Row) (sound : schema_fault tables ≡ None) (fit : row_fault tables cell row ≡ None) where
  insert_again : edit_of tables (edit_fields tables (edit.Insert cell row)) ≡ Ok (edit.Insert cell row)
  unfolding edit_of edit_in field_at
  insert_again =
      let f = schema.fits_table tables cell row fit in
      let table = f.0 in
      let fits = f.2 in
      let key = signed_decimal cell.key in
      rw (
        f.1,
        schema.table_of_name tables cell.table table sound f.1,
        f.1,
        three_again (codes "insert") table.name key row,
        fields_again table (codes "insert") table.name key row fits.count (count_again table.shape row.shape fits.form fits.vertices),
        whole_again cell.key (schema.key_within cell.key fits.key),
        row_again table (codes "insert") table.name key cell row fits,
      ) refl

  update_again : edit_of tables (edit_fields tables (edit.Update cell row)) ≡ Ok (edit.Update cell row)
  unfolding edit_of edit_in field_at
  update_again =
      let f = schema.fits_table tables cell row fit in
      let table = f.0 in
      let fits = f.2 in
      let key = signed_decimal cell.key in
      rw (
        f.1,
        schema.table_of_name tables cell.table table sound f.1,
        f.1,
        three_again (codes "update") table.name key row,
        fields_again table (codes "update") table.name key row fits.count (count_again table.shape row.shape fits.form fits.vertices),
        whole_again cell.key (schema.key_within cell.key fits.key),
        row_again table (codes "update") table.name key cell row fits,
      ) refl

delete_again : (tables : List TableDef) (cell : CellId) → schema_fault tables ≡ None → cell_fault tables cell ≡ None
    → edit_of tables (edit_fields tables (edit.Delete cell)) ≡ Ok (edit.Delete cell)
unfolding edit_of edit_in field_at
delete_again tables cell sound fit =
    let f = schema.cell_parts tables cell fit in
    rw (f.1, schema.table_of_name tables cell.table f.0 sound f.1, f.1, whole_again cell.key (schema.key_within cell.key f.2)) refl

-- the record of an edit is read as the edit
pub edit_again : (tables : List TableDef) (e : Edit) → schema_fault tables ≡ None → Fits tables e → edit_of tables (edit_fields tables e) ≡ Ok e
edit_again tables (edit.Insert cell row) sound fit = insert_again tables cell row sound fit
edit_again tables (edit.Update cell row) sound fit = update_again tables cell row sound fit
edit_again tables (edit.Delete cell) sound fit = delete_again tables cell sound fit
