-- The text of a layer, and the rows that a text is.
use Rattle.std.specs.Prelude.{◌≡◌, ℕ, ◌+◌, ◌==◌, List, [], ◌∷◌, ◌++◌, drop, length, map, position}
use Rattle.std.specs.Prelude.{◌||◌, Bool, true, false, not, Option, Some, None, Result, Ok, Err, slice_get, unwrap_or, ℤ, pos, if◌then◌else◌}
use Rattle.std.specs.Fmt.{signed_decimal}
use Rattle.std.specs.List.{list_any}
use Rattle.std.specs.Str.{bytes_eq}
use Rattle.csv.specs.Writing.{default_writer, row_text}
use Rattle.clr_rows.specs.declared.cells.CellId.{CellId}
use Rattle.clr_rows.specs.declared.faults.RowFault.{RowFault}
use Rattle.clr_rows.specs.declared.faults.RowFault.TheVariants.{NoTable}
use Rattle.clr_rows.specs.declared.limits.TheConstants.{KEY}
use Rattle.clr_rows.specs.declared.places.Shape.{Shape}
use Rattle.clr_rows.specs.declared.places.Shape.TheVariants.{Bare, At, Line, Chain}
use Rattle.clr_rows.specs.declared.rows.Value.{Value}
use Rattle.clr_rows.specs.declared.tables.Form.{Form}
use Rattle.clr_rows.specs.declared.tables.Form.TheVariants as form
use Rattle.clr_rows.specs.declared.tables.Kind.{Kind}
use Rattle.clr_rows.specs.declared.tables.TableDef.{TableDef}
use Rattle.clr_rows.specs.Schemas.{names_of, row_fault}
use Rattle.clr_records.specs.Decimals.{number_of}
use Rattle.clr_readings.specs.Readings.{◌>>=◌, or_fault}
use Rattle.clr_records.specs.Records.{at_record, field_of, in_turn, records_in}
use Rattle.clr_records.specs.Values.{value_field, value_of_kind}
use Rattle.clr_records.specs.Writing.{records_text}
use Rattle.clr_layer_text.specs.declared.faults.LayerFault.{LayerFault}
use Rattle.clr_layer_text.specs.declared.faults.LayerFault.TheVariants.{NotCsv, NoColumn, ColumnTwice, FieldCount, BadNumber, Unfit}
use Rattle.clr_layer_text.specs.declared.headings.Heading.{Heading}
use Rattle.clr_layer_text.specs.declared.headings.ShapeHeading.{ShapeHeading}
use Rattle.clr_layer_text.specs.declared.limits.TheConstants.{SHAPE}
use Rattle.clr_layer_text.specs.declared.rows.LayerRow.{LayerRow}
use Rattle.clr_layer_text.specs.Pieces.{is_empty}
use Rattle.clr_layer_text.specs.Wkt.{shape_of, shape_text}

-- writing -----------------------------------------------------------------------------------------

-- the field of a shape, in a table whose rows have one
abbrev pub shape_name : Form → List (List ℕ)
shape_name form.Bare = []
shape_name _ = SHAPE.now ∷ []

abbrev pub is_bare : Form → Bool
is_bare form.Bare = true
is_bare _ = false

abbrev pub is_called_shape : List ℕ × Kind → Bool
is_called_shape column = bytes_eq column.0 SHAPE.now

-- no column is called as the field of shapes, where there is one
abbrev pub can_be_layer : TableDef → Bool
can_be_layer table = is_bare table.shape || not (list_any is_called_shape table.columns)

-- the header of a table's layers
abbrev pub header_of : TableDef → List (List ℕ)
header_of table = KEY.now ∷ (names_of table.columns ++ shape_name table.shape)

abbrev pub key_text : Option ℤ → List ℕ
key_text None = []
key_text (Some key) = signed_decimal key

abbrev pub shape_fields : Shape → List (List ℕ)
shape_fields Bare = []
shape_fields (At p) = shape_text (At p) ∷ []
shape_fields (Line p q) = shape_text (Line p q) ∷ []
shape_fields (Chain vertices) = shape_text (Chain vertices) ∷ []

-- the record of a row
abbrev pub row_fields : LayerRow → List (List ℕ)
row_fields r = key_text r.key ∷ (map value_field r.row.values ++ shape_fields r.row.shape)

-- the text of a layer
abbrev pub layer_text : TableDef → List LayerRow → List ℕ
layer_text table rows = records_text (header_of table ∷ map row_fields rows)

-- the line of the header, and that of a row
abbrev pub header_line : TableDef → List ℕ
header_line table = row_text default_writer (header_of table)

abbrev pub row_line : LayerRow → List ℕ
row_line r = row_text default_writer (row_fields r)

-- reading: the header -------------------------------------------------------------------------------

abbrev pub once_at : List (List ℕ) → List ℕ → Option ℕ → Result ℕ LayerFault
once_at names name None = Err NoColumn
once_at names name (Some at) = if list_any (bytes_eq name) (drop (at + 1) names) then Err ColumnTwice else Ok at

-- where a name stands in a header, which has it once
abbrev pub heading_of : List (List ℕ) → List ℕ → Result ℕ LayerFault
heading_of names name = once_at names name (position (λ other. bytes_eq other name) names)

-- where a column's values stand
abbrev pub column_of : List (List ℕ) → List ℕ × Kind → Result Heading LayerFault
column_of names column = heading_of names column.0 >>= λ at. Ok (record { kind = column.1; at = at })

abbrev pub columns_of : List (List ℕ) → List (List ℕ × Kind) → Result (List Heading) LayerFault
columns_of names columns = in_turn (λ _. column_of names) 0 columns

-- where the shapes stand, and of which form they are
abbrev pub shape_heading_of : List (List ℕ) → Form → Result (Option ShapeHeading) LayerFault
shape_heading_of names form.Bare = Ok None
shape_heading_of names wanted = heading_of names SHAPE.now >>= λ at. Ok (Some (record { form = wanted; at = at }))

-- where the fields of rows stand in records of so many fields
pub record Fields : Type 0 where
  pub width : ℕ
  pub key : ℕ
  pub columns : List Heading
  pub shape : Option ShapeHeading

unfoldable pub fields_in : List (List ℕ) → TableDef → Result Fields LayerFault
fields_in names table = do
  key ← heading_of names KEY.now
  columns ← columns_of names table.columns
  shape ← shape_heading_of names table.shape
  Ok (record { width = length names; key = key; columns = columns; shape = shape })

-- reading: a row ------------------------------------------------------------------------------------

-- the key of a row, which has none yet where the field is empty
abbrev pub key_in_field : List ℕ → Result (Option ℤ) LayerFault
key_in_field text = if is_empty text then Ok None else (or_fault BadNumber (number_of text) >>= λ key. Ok (Some key))

abbrev pub value_of : Kind → List ℕ → Result Value LayerFault
value_of kind text = or_fault BadNumber (value_of_kind kind text)

abbrev pub values_of : List Heading → List (List ℕ) → Result (List Value) LayerFault
values_of columns fields = in_turn (λ _ column. value_of column.kind (field_of fields column.at)) 0 columns

abbrev pub shape_in : Bool → Option ShapeHeading → List (List ℕ) → Result Shape LayerFault
shape_in rounded None fields = Ok Bare
shape_in rounded (Some heading) fields = shape_of rounded heading.form (field_of fields heading.at)

-- the cell at which a row is to stand; a row without a key fits where it fits at key 1
abbrev pub cell_of : ℕ → Option ℤ → CellId
cell_of table key = record { table = table; key = unwrap_or key (pos 1) }

-- a row fits the table of a number
abbrev pub IsFitting : List TableDef → ℕ → LayerRow → Type 0
IsFitting tables table r = row_fault tables (cell_of table r.key) r.row ≡ None

abbrev pub if_fits : Option RowFault → LayerRow → Result LayerRow LayerFault
if_fits None r = Ok r
if_fits (Some why) r = Err (Unfit why)

-- a row, if it fits its table
abbrev pub fitting : List TableDef → ℕ → LayerRow → Result LayerRow LayerFault
fitting tables table r = if_fits (row_fault tables (cell_of table r.key) r.row) r

unfoldable pub whole_row_of : List TableDef → ℕ → Bool → Fields → List (List ℕ) → Result LayerRow LayerFault
whole_row_of tables table rounded at fields = do
  key ← key_in_field (field_of fields at.key)
  values ← values_of at.columns fields
  shape ← shape_in rounded at.shape fields
  fitting tables table (record { key = key; row = record { values = values; shape = shape } })

-- the row of a record: the count of fields is tested first, then the key, the values, the shape, and then whether the row fits
abbrev pub row_of : List TableDef → ℕ → Bool → Fields → List (List ℕ) → Result LayerRow LayerFault
row_of tables table rounded at fields = if length fields == at.width then whole_row_of tables table rounded at fields else Err FieldCount

-- reading: a layer ----------------------------------------------------------------------------------

-- where the fields of a table's rows stand; the values of a column that is called as the field of shapes can't be told from the shapes
abbrev pub fields_of_table : List (List ℕ) → Option TableDef → Result Fields LayerFault
fields_of_table names None = Err (Unfit NoTable)
fields_of_table names (Some table) = if can_be_layer table then fields_in names table else Err ColumnTwice

-- the rows of records that are numbered from n
abbrev pub rows_from : List TableDef → ℕ → Bool → Fields → ℕ → List (List (List ℕ)) → Result (List LayerRow) (ℕ × LayerFault)
rows_from tables table rounded at n records = in_turn (λ m fields. at_record m (row_of tables table rounded at fields)) n records

-- the rows of records, the first of which is the header
abbrev pub layer_rows_of : List TableDef → ℕ → Bool → List (List (List ℕ)) → Result (List LayerRow) (ℕ × LayerFault)
layer_rows_of tables table rounded [] = Err (1, NoColumn)
layer_rows_of tables table rounded (names ∷ records) = at_record 1 (fields_of_table names
    (slice_get tables table)) >>= λ at. rows_from tables table rounded at 2
    records

-- the rows of a text
abbrev pub layer_in_text : List TableDef → ℕ → Bool → List ℕ → Result (List LayerRow) (ℕ × LayerFault)
layer_in_text tables table rounded bytes = or_fault (1, NotCsv) (records_in bytes) >>= λ records. layer_rows_of tables table rounded records
