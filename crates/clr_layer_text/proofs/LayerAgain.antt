-- The text of a layer is read as the rows that were written.
use Rattle.std.proofs.Common.{◌≡◌, ℕ, suc, ◌+◌, Bool, true, List, [], ◌∷◌, get_or, map, Ok, Option, Some, None, ℤ, pos, refl}
use Rattle.std.proofs.Common.{arith}
use Rattle.std.specs.Prelude.{IsUtf8, slice_get, unwrap_or}
use Rattle.std.specs.List.{All, AllByRecursion}
use Rattle.std.proofs.lemmas.Bool.{and_parts}
use Rattle.std.proofs.lemmas.List.Elements.{recursion_from_All}
use Rattle.std.proofs.lemmas.Str.{IsUtf8-nil, is_utf8-from_IsUtf8}
use Rattle.std.proofs.lemmas.Option.{slice_get-get_or}
use Rattle.csv.specs.Reading.{strip_bom}
use Rattle.clr_rows.specs.declared.limits.TheConstants.{KEY}
use Rattle.clr_rows.specs.declared.places.Shape.{Shape}
use Rattle.clr_rows.specs.declared.places.Shape.TheVariants.{Bare, At, Line, Chain}
use Rattle.clr_rows.specs.declared.tables.Form.{Form}
use Rattle.clr_rows.specs.declared.tables.Form.TheVariants as form
use Rattle.clr_rows.specs.declared.tables.Kind.{Kind}
use Rattle.clr_rows.specs.declared.tables.TableDef.{TableDef}
use Rattle.clr_rows.specs.Names.{is_good_name}
use Rattle.clr_records.proofs.RecordsAgain.{HasField, read_written, rows_closed, utf8_closed}
use Rattle.clr_records.proofs.Turns.{joined}
use Rattle.clr_records.proofs.Utf8.{low_utf8, name_utf8, number_utf8}
use Rattle.clr_layer_text.specs.declared.limits.TheConstants.{SHAPE}
use Rattle.clr_rows.specs.Schemas.{is_key, names_of, schema_fault}
use Rattle.clr_rows.proofs.SchemaLemmas.{good_column_name, key_within, row_fits}
use Rattle.clr_records.specs.Records.{in_turn}
use Rattle.clr_layer_text.specs.declared.rows.LayerRow.{LayerRow}
use Rattle.clr_layer_text.specs.Layers.{cell_of, header_of, key_text, layer_text, row_fields, rows_from, shape_fields, shape_name}
use Rattle.clr_records.specs.Values.{IsText, value_field}
use Rattle.clr_records.proofs.ValuesAgain.{values_utf8}
use Rattle.clr_layer_text.specs.ReadBack.{IsLayerRow, ReadBackLaw}
use Rattle.clr_layer_text.specs.Wkt.{shape_text}
use Rattle.clr_layer_text.proofs.HeaderAgain.{header_again, written_fields}
use Rattle.clr_layer_text.proofs.HeaderNames.{header_differs}
use Rattle.clr_layer_text.proofs.RowAgain.{row_again}
use Rattle.clr_layer_text.proofs.ShapeAgain.{shape_ascii}

-- the records are read ----------------------------------------------------------------------------

records_again : (tables : List TableDef) (at : ℕ) (table : TableDef) (rounded : Bool) (rows : List LayerRow) (n : ℕ) → slice_get tables at ≡ Some table
    → AllByRecursion (IsLayerRow tables at) rows → rows_from tables at rounded (written_fields table) n (map row_fields rows) ≡ Ok rows
unfolding in_turn
records_again tables at table rounded [] n is all = refl
records_again tables at table rounded (r ∷ rows) n is all =
    rw (row_again tables at table rounded r is all.0.fits, records_again tables at table rounded rows (n + 1) is all.1) refl

-- the records are in UTF-8 ------------------------------------------------------------------------

wkt_name : is_good_name SHAPE.now ≡ true
unfolding is_good_name
wkt_name = refl

key_name : is_good_name KEY.now ≡ true
unfolding is_good_name
key_name = refl

shape_name_utf8 : (wanted : Form) → AllByRecursion IsUtf8 (shape_name wanted)
shape_name_utf8 form.Bare = tt
shape_name_utf8 form.Point = (name_utf8 SHAPE.now wkt_name, tt)
shape_name_utf8 form.Segment = (name_utf8 SHAPE.now wkt_name, tt)
shape_name_utf8 form.Path = (name_utf8 SHAPE.now wkt_name, tt)

names_utf8 : (columns : List (List ℕ × Kind)) → All (λ column. is_good_name column.0 ≡ true) columns → AllByRecursion IsUtf8 (names_of columns)
names_utf8 [] all = tt
names_utf8 (column ∷ columns) all = (name_utf8 column.0 (all 0 column (omega arith)), names_utf8 columns (λ k d lt. all (suc k) d (omega arith)))

module _ (tables : List TableDef) (at : ℕ) (table : TableDef) (sound : schema_fault tables ≡ None) (is : slice_get tables at ≡ Some table) where
  good_names : All (λ column. is_good_name column.0 ≡ true) table.columns
  good_names = λ k d lt.
      let column = get_or table.columns k d in
      (and_parts (is_good_name column.0) _ (good_column_name tables at k table column sound is (slice_get-get_or table.columns k d lt))).0

  header_utf8 : AllByRecursion IsUtf8 (header_of table)
  header_utf8 = (
    name_utf8 KEY.now key_name,
    joined IsUtf8 (names_of table.columns) (shape_name table.shape) (names_utf8 table.columns good_names) (shape_name_utf8 table.shape),
  )

key_utf8 : (key : Option ℤ) → is_key (unwrap_or key (pos 1)) ≡ true → IsUtf8 (key_text key)
key_utf8 None e = IsUtf8-nil
key_utf8 (Some z) e = number_utf8 z (key_within z e)

shape_utf8 : (shape : Shape) → IsUtf8 (shape_text shape) → AllByRecursion IsUtf8 (shape_fields shape)
shape_utf8 Bare utf8 = tt
shape_utf8 (At p) utf8 = (utf8, tt)
shape_utf8 (Line p q) utf8 = (utf8, tt)
shape_utf8 (Chain ps) utf8 = (utf8, tt)

row_utf8 : (tables : List TableDef) (at : ℕ) (table : TableDef) (r : LayerRow) → slice_get tables at ≡ Some table → IsLayerRow tables at r
    → AllByRecursion IsUtf8 (row_fields r)
row_utf8 tables at table r is one =
    let f = row_fits tables (cell_of at r.key) r.row one.fits table is in (
      key_utf8 r.key f.key,
      joined IsUtf8 (map value_field r.row.values) (shape_fields r.row.shape)
          (values_utf8 r.row.values f.numbers (recursion_from_All IsText r.row.values one.texts))
          (shape_utf8 r.row.shape (low_utf8 (shape_text r.row.shape) (shape_ascii r.row.shape f.coordinates))),
    )

rows_are_utf8 : (tables : List TableDef) (at : ℕ) (table : TableDef) (rows : List LayerRow) → slice_get tables at ≡ Some table
    → AllByRecursion (IsLayerRow tables at) rows
    → AllByRecursion (λ fields. AllByRecursion IsUtf8 fields) (map row_fields rows)
rows_are_utf8 tables at table [] is all = tt
rows_are_utf8 tables at table (r ∷ rows) is all = (row_utf8 tables at table r is all.0, rows_are_utf8 tables at table rows is all.1)

-- the whole text ----------------------------------------------------------------------------------

have_field : (rows : List LayerRow) → AllByRecursion HasField (map row_fields rows)
have_field [] = tt
have_field (r ∷ rows) = (refl, have_field rows)

-- a text that begins with `KEY` begins with no byte order mark
no_mark : (table : TableDef) (rows : List LayerRow) → strip_bom (layer_text table rows) ≡ layer_text table rows
unfolding strip_bom
no_mark table rows = refl

-- what is written is read
pub layer_again : ReadBackLaw
layer_again tables at table rows rounded is =
    let all = recursion_from_All (IsLayerRow tables at) rows is.each in
    let records = header_of table ∷ map row_fields rows in
    let utf8 = rows_closed IsUtf8 utf8_closed records (header_utf8 tables at table is.sound is.stands, rows_are_utf8 tables at table rows is.stands all) in
    rw (
      is_utf8-from_IsUtf8 (layer_text table rows) utf8,
      no_mark table rows,
      read_written records (refl, have_field rows),
      is.stands,
      is.names,
      header_again table (header_differs tables at table is.sound is.stands is.names),
      records_again tables at table rounded rows 2 is.stands all,
    ) refl
