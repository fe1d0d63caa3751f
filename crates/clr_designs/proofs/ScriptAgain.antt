-- The text of the script that makes a design, or brings one again, is read as the steps that do.
use Rattle.std.proofs.Common.{◌≡◌, ℕ, ◌+◌, ◌<◌, ◌^◌, true, List, [], ◌∷◌, ◌++◌, length, map, codes, Ok, Some, None, pos, refl, arith}
use Rattle.std.specs.Prelude.{IsUtf8, slice_get}
use Rattle.std.specs.List.{All, AllByRecursion, flat_map, list_all}
use Rattle.std.proofs.lemmas.Bool.{and_parts, le-leb, lt-ltb}
use Rattle.std.proofs.lemmas.List.{length-map, take_all}
use Rattle.std.proofs.lemmas.List.Elements.{recursion_from_All}
use Rattle.csv.specs.Reading.{strip_bom}
use Rattle.csv.specs.Records.{field_at}
use Rattle.csv.specs.Writing.{default_writer, escaped, fields_text, is_blank, row_text}
use Rattle.clr_rows.specs.declared.cells.CellId.{CellId}
use Rattle.clr_rows.specs.declared.places.Place.{Place}
use Rattle.clr_rows.specs.declared.places.Shape.{Shape}
use Rattle.clr_rows.specs.declared.places.Shape.TheVariants.{Bare, At, Line, Chain}
use Rattle.clr_rows.specs.declared.rows.Row.{Row}
use Rattle.clr_rows.specs.declared.tables.TableDef.{TableDef}
use Rattle.clr_rows.specs.Names.{is_good_name}
use Rattle.clr_rows.specs.Schemas.{has_coordinates, is_coordinate, is_key, is_place, name_of_table, row_fault, schema_fault}
use Rattle.clr_rows.proofs.SchemaLemmas as schema
use Rattle.clr_change.specs.declared.edits.Edit.{Edit}
use Rattle.clr_change.specs.declared.edits.Edit.TheVariants.{Insert, Update, Delete}
use Rattle.clr_records.specs.Records.{in_turn}
use Rattle.clr_records.proofs.Decimals.{number_again}
use Rattle.clr_records.proofs.RecordsAgain.{IsPlain, records_again}
use Rattle.clr_records.proofs.Turns.{joined}
use Rattle.clr_records.proofs.Utf8.{name_utf8, number_utf8}
use Rattle.clr_lines.specs.Rows.{cell_fields, place_fields, row_fields, rows_writer, shape_fields}
use Rattle.clr_scripts.specs.Edits.{edits_from}
use Rattle.clr_scripts.specs.Scripts.{apply_of, command_of, plain_step_of, script_in_text, script_of, step_of, steps_from}
use Rattle.clr_designs.specs.Scripts.{again_records, again_script, again_steps, apply_fields, create_fields, design_records, design_script, design_steps}
use Rattle.clr_designs.specs.Scripts.{edit_fields, roll_fields, script_text}
use Rattle.clr_records.specs.Values.{IsText, value_field}
use Rattle.clr_records.proofs.ValuesAgain.{values_utf8}
use Rattle.clr_designs.specs.ReadBack.{AgainReadBackLaw, Fits, HasTexts, ReadBackLaw}
use Rattle.clr_designs.proofs.EditAgain.{edit_again}

-- the records are read -----------------------------------------------------------------------------

edits_again : (tables : List TableDef) (n : ℕ) (edits : List Edit) → schema_fault tables ≡ None → AllByRecursion (Fits tables) edits
    → edits_from tables n (map (edit_fields tables) edits) ≡ Ok edits
unfolding in_turn
edits_again tables n [] sound all = refl
edits_again tables n (e ∷ edits) sound all = rw (edit_again tables e sound all.0, edits_again tables (n + 1) edits sound all.1) refl

-- the records of an `apply` are no steps
passed_over : (tables : List TableDef) (n : ℕ) (rows : List (List (List ℕ))) → steps_from tables (length rows) n rows ≡ Ok []
unfolding steps_from
passed_over tables n [] = refl
passed_over tables n (fields ∷ rows) = passed_over tables (n + 1) rows

steps_again : (tables : List TableDef) (name root : List ℕ) (edits : List Edit) → schema_fault tables ≡ None → AllByRecursion (Fits tables) edits
    → length edits < 2 ^ 63
    → script_of tables (design_records tables name root edits) ≡ Ok (design_steps name root edits)
unfolding steps_from step_of apply_of plain_step_of command_of field_at
steps_again tables name root edits sound fit few =
    let rows = map (edit_fields tables) edits in
    let long : length rows ≡ length edits = length-map edits (edit_fields tables) in
    let none = rw long at (passed_over tables (2 + 1) rows) in
    rw (
      number_again (pos (length edits)) (lt-ltb (length edits) (2 ^ 63) few),
      take_all (length edits) rows (omega (arith, long)),
      edits_again tables (2 + 1) edits sound fit,
      le-leb (length edits) (length rows) (omega (arith, long)),
      none,
    ) refl

-- the fields are in UTF-8 --------------------------------------------------------------------------

place_utf8 : (p : Place) → is_place p ≡ true → AllByRecursion IsUtf8 (place_fields p)
place_utf8 p e =
    let t = and_parts (is_coordinate p.x) (is_coordinate p.y) e in
    (number_utf8 p.x (schema.coordinate_within p.x t.0), (number_utf8 p.y (schema.coordinate_within p.y t.1), tt))

vertices_utf8 : (ps : List Place) → list_all is_place ps ≡ true → AllByRecursion IsUtf8 (flat_map place_fields ps)
vertices_utf8 [] e = tt
vertices_utf8 (p ∷ ps) e =
    let t = and_parts (is_place p) (list_all is_place ps) e in
    joined IsUtf8 (place_fields p) (flat_map place_fields ps) (place_utf8 p t.0) (vertices_utf8 ps t.1)

shape_utf8 : (shape : Shape) → has_coordinates shape ≡ true → AllByRecursion IsUtf8 (shape_fields shape)
shape_utf8 Bare e = tt
shape_utf8 (At p) e = place_utf8 p e
shape_utf8 (Line p q) e = let t = and_parts (is_place p) (is_place q) e in joined IsUtf8 (place_fields p) (place_fields q) (place_utf8 p t.0) (place_utf8 q t.1)
shape_utf8 (Chain ps) e = vertices_utf8 ps e

cell_utf8 : (tables : List TableDef) (cell : CellId) (table : TableDef) → schema_fault tables ≡ None → slice_get tables cell.table ≡ Some table
    → is_key cell.key ≡ true
    → AllByRecursion IsUtf8 (cell_fields tables cell)
cell_utf8 tables cell table sound is key =
    let name : IsUtf8 (name_of_table tables cell.table) = rw is (name_utf8 table.name (schema.good_table_name tables cell.table table sound is)) in
    (name, (number_utf8 cell.key (schema.key_within cell.key key), tt))

row_utf8 : (tables : List TableDef) (cell : CellId) (row : Row) → schema_fault tables ≡ None → row_fault tables cell row ≡ None → All IsText row.values
    → AllByRecursion IsUtf8 (row_fields tables cell row)
row_utf8 tables cell row sound fit texts =
    let f = schema.fits_table tables cell row fit in
    joined IsUtf8 (cell_fields tables cell) (map value_field row.values ++ shape_fields row.shape) (cell_utf8 tables cell f.0 sound f.1 f.2.key)
    (joined IsUtf8 (map value_field row.values) (shape_fields row.shape) (values_utf8 row.values f.2.numbers (recursion_from_All IsText row.values texts))
    (shape_utf8 row.shape f.2.coordinates))

edit_plain : (tables : List TableDef) (e : Edit) → schema_fault tables ≡ None → Fits tables e → HasTexts e → IsPlain IsUtf8 (edit_fields tables e)
unfolding is_good_name
edit_plain tables (Insert cell row) sound fit texts = record { some = refl; each = (name_utf8 (codes "insert") refl, row_utf8 tables cell row sound fit texts) }
edit_plain tables (Update cell row) sound fit texts = record { some = refl; each = (name_utf8 (codes "update") refl, row_utf8 tables cell row sound fit texts) }
edit_plain tables (Delete cell) sound fit texts =
    let f = schema.cell_parts tables cell fit in
    record { some = refl; each = (name_utf8 (codes "delete") refl, cell_utf8 tables cell f.0 sound f.1 f.2) }

edits_plain : (tables : List TableDef) (edits : List Edit) → schema_fault tables ≡ None → AllByRecursion (Fits tables) edits → AllByRecursion HasTexts edits
    → AllByRecursion (IsPlain IsUtf8) (map (edit_fields tables) edits)
edits_plain tables [] sound fit texts = tt
edits_plain tables (e ∷ edits) sound fit texts = (edit_plain tables e sound fit.0 texts.0, edits_plain tables edits sound fit.1 texts.1)

create_plain : (name root : List ℕ) → IsUtf8 name → IsUtf8 root → IsPlain IsUtf8 (create_fields name root)
unfolding is_good_name
create_plain name root n r = record { some = refl; each = (name_utf8 (codes "create") refl, (n, (r, tt))) }

apply_plain : (name : List ℕ) (count : ℕ) → IsUtf8 name → count < 2 ^ 63 → IsPlain IsUtf8 (apply_fields name count)
unfolding is_good_name
apply_plain name count n few =
    record { some = refl; each = (name_utf8 (codes "apply") refl, (n, (number_utf8 (pos count) (lt-ltb count (2 ^ 63) few), tt))) }

-- a writer that takes any number of fields writes as csv does by itself ------------------------------

escaped_same : (s : List ℕ) → escaped rows_writer s ≡ escaped default_writer s
unfolding escaped
escaped_same [] = refl
escaped_same (b ∷ s) = rw (escaped_same s) refl

fields_same : (fields : List (List ℕ)) → fields_text rows_writer fields ≡ fields_text default_writer fields
unfolding fields_text
fields_same [] = refl
fields_same (x ∷ fields) = rw (escaped_same x, fields_same fields) refl

blank_same : (fields : List (List ℕ)) → is_blank rows_writer fields ≡ is_blank default_writer fields
unfolding is_blank
blank_same [] = refl
blank_same (x ∷ []) = rw (escaped_same x) refl
blank_same (x ∷ y ∷ fields) = refl

row_same : (fields : List (List ℕ)) → row_text rows_writer fields ≡ row_text default_writer fields
row_same [] = rw (blank_same []) refl
row_same (x ∷ fields) = rw (escaped_same x, fields_same fields, blank_same (x ∷ fields)) refl

records_same : (rows : List (List (List ℕ))) → script_text rows ≡ flat_map (row_text default_writer) rows
records_same [] = refl
records_same (r ∷ rows) = rw (row_same r, records_same rows) refl

-- the whole text ----------------------------------------------------------------------------------

-- a text that begins with `create` begins with no byte order mark
no_mark : (name root : List ℕ) (rows : List (List (List ℕ)))
    → strip_bom (flat_map (row_text default_writer) (create_fields name root ∷ rows)) ≡ flat_map (row_text default_writer) (create_fields name root ∷ rows)
unfolding strip_bom
no_mark name root rows = refl

-- what is written is read
pub script_again : ReadBackLaw
script_again tables name root edits is =
    let fit = recursion_from_All (Fits tables) edits is.fit in
    let texts = recursion_from_All HasTexts edits is.texts in
    let records = design_records tables name root edits in
    let plain : AllByRecursion (IsPlain IsUtf8) records =
    (create_plain name root is.named is.rooted, (apply_plain name (length edits) is.named is.few, edits_plain tables edits is.sound fit texts)) in
    rw (
      records_same records,
      records_again records plain (no_mark name root (apply_fields name (length edits) ∷ map (edit_fields tables) edits)),
      steps_again tables name root edits is.sound fit is.few,
    ) refl

-- a design's script is read as it was written, by what is known where it is written
pub written_again : (tables : List TableDef) (name root : List ℕ) (edits : List Edit) (text : List ℕ) → text ≡ design_script tables name root edits
    → schema_fault tables ≡ None → IsUtf8 name → IsUtf8 root → length edits < 2 ^ 63 → All HasTexts edits → All (Fits tables) edits
    → script_in_text tables text ≡ Ok (design_steps name root edits)
written_again tables name root edits text is sound named rooted few texts fit =
    rw is (script_again tables name root edits (record { sound = sound; named = named; rooted = rooted; fit = fit; texts = texts; few = few }))

-- the script that brings a design again ------------------------------------------------------------

roll_plain : (name : List ℕ) → IsUtf8 name → IsPlain IsUtf8 (roll_fields name)
unfolding is_good_name
roll_plain name n = record { some = refl; each = (name_utf8 (codes "rollall") refl, (n, tt)) }

both_again : (tables : List TableDef) (name : List ℕ) (edits : List Edit) → schema_fault tables ≡ None → AllByRecursion (Fits tables) edits
    → length edits < 2 ^ 63
    → script_of tables (again_records tables name edits) ≡ Ok (again_steps name edits)
unfolding steps_from step_of apply_of plain_step_of command_of field_at
both_again tables name edits sound fit few =
    let rows = map (edit_fields tables) edits in
    let long : length rows ≡ length edits = length-map edits (edit_fields tables) in
    let none = rw long at (passed_over tables (2 + 1) rows) in
    rw (
      number_again (pos (length edits)) (lt-ltb (length edits) (2 ^ 63) few),
      take_all (length edits) rows (omega (arith, long)),
      edits_again tables (2 + 1) edits sound fit,
      le-leb (length edits) (length rows) (omega (arith, long)),
      none,
    ) refl

-- a text that begins with `rollall` begins with no byte order mark
no_mark_again : (name : List ℕ) (rows : List (List (List ℕ)))
    → strip_bom (flat_map (row_text default_writer) (roll_fields name ∷ rows)) ≡ flat_map (row_text default_writer) (roll_fields name ∷ rows)
unfolding strip_bom
no_mark_again name rows = refl

pub again_read : AgainReadBackLaw
again_read tables name edits is =
    let fit = recursion_from_All (Fits tables) edits is.fit in
    let texts = recursion_from_All HasTexts edits is.texts in
    let records = again_records tables name edits in
    let plain : AllByRecursion (IsPlain IsUtf8) records =
    (roll_plain name is.named, (apply_plain name (length edits) is.named is.few, edits_plain tables edits is.sound fit texts)) in
    rw (
      records_same records,
      records_again records plain (no_mark_again name (apply_fields name (length edits) ∷ map (edit_fields tables) edits)),
      both_again tables name edits is.sound fit is.few,
    ) refl

-- such a script is read as it was written, by what is known where it is written
pub again_written : (tables : List TableDef) (name : List ℕ) (edits : List Edit) (text : List ℕ) → text ≡ again_script tables name edits
    → schema_fault tables ≡ None → IsUtf8 name → length edits < 2 ^ 63 → All HasTexts edits → All (Fits tables) edits
    → script_in_text tables text ≡ Ok (again_steps name edits)
again_written tables name edits text is sound named few texts fit =
    rw is (again_read tables name edits (record { sound = sound; named = named; rooted = named; fit = fit; texts = texts; few = few }))
