-- The cells with rows of an office text, or the first fault.
use Rattle.std.specs.Prelude.{ℕ, ℤ, Bool, true, false, List, [], ◌∷◌, codes, Option, Some, None, option_and_then, slice_get}
use Rattle.std.specs.Prelude.{Result, Ok, Err, if◌then◌else◌}
use Rattle.serde_json.specs.Data.{Data, Items, no_items, item}
use Rattle.serde_json.specs.Find.{get, as_bool}
use Rattle.clr_rows.specs.declared.cells.CellId.{CellId}
use Rattle.clr_rows.specs.declared.places.Place.{Place}
use Rattle.clr_rows.specs.declared.places.Shape.{Shape}
use Rattle.clr_rows.specs.declared.places.Shape.TheVariants.{Bare, At, Line, Chain}
use Rattle.clr_rows.specs.declared.rows.Value.{Value}
use Rattle.clr_rows.specs.declared.rows.Row.{Row}
use Rattle.clr_rows.specs.declared.tables.Form.{Form}
use Rattle.clr_rows.specs.declared.tables.Form.TheVariants as form
use Rattle.clr_rows.specs.declared.tables.TableDef.{TableDef}
use Rattle.clr_rows.specs.Contents.{Content, no_rows, row_at, set_cell}
use Rattle.clr_rows.specs.Schemas.{row_fault, table_named}
use Rattle.clr_rule_text.specs.declared.faults.TextFault.{TextFault}
use Rattle.clr_rule_text.specs.declared.faults.TextFault.TheVariants.{BadField, BadRow, RepeatedCell}
use Rattle.clr_office_reading.specs.declared.cells.NamedRow.{NamedRow}
use Rattle.clr_readings.specs.Readings.{◌>>=◌}
use Rattle.clr_rule_text.specs.Fields.{none_or_fault, each, list_at, number_at, number_of, or_bad_field, words_at}
use Rattle.clr_rule_text.specs.Values.{value_of}

-- as they are written ------------------------------------------------------------------------

unfoldable pub place_of : Data → Data → Result Place TextFault
place_of x y = do
  x ← number_of x
  y ← number_of y
  Ok (record { x = x; y = y })

-- two numbers for each place; none is left over
unfoldable pub places_of : Items → Result (List Place) TextFault
places_of no_items = Ok []
places_of (item x no_items) = Err BadField
places_of (item x (item y more)) = do
  place ← place_of x y
  others ← places_of more
  Ok (place ∷ others)

-- no place, that of a point, or the two ends of a segment
abbrev pub plain_shape : List Place → Result Shape TextFault
plain_shape [] = Ok Bare
plain_shape (p ∷ []) = Ok (At p)
plain_shape (p ∷ (q ∷ [])) = Ok (Line p q)
plain_shape (p ∷ (q ∷ (r ∷ more))) = Err BadField

-- in a table of paths all places are vertices
abbrev pub shape_with : Bool → List Place → Result Shape TextFault
shape_with true places = Ok (Chain places)
shape_with false places = plain_shape places

unfoldable pub values_of : Data → Result (List Value) TextFault
values_of d = list_at (codes "v") d >>= each value_of

unfoldable pub shape_of : Bool → Data → Result Shape TextFault
shape_of is_path d = do
  numbers ← list_at (codes "s") d
  places ← places_of numbers
  shape_with is_path places

unfoldable pub row_of : Bool → Data → Result Row TextFault
row_of is_path d = do
  values ← values_of d
  shape ← shape_of is_path d
  Ok (record { values = values; shape = shape })

-- a flag that is missing or false
abbrev pub without_flag : Option Data → Result Unit TextFault
without_flag None = Ok tt
without_flag (Some d) = or_bad_field (as_bool d) >>= λ set. (if set then Err BadField else Ok tt)

abbrev pub is_path_form : Form → Bool
is_path_form form.Path = true
is_path_form _ = false

-- an unknown table has no paths
abbrev pub is_of_paths : Option TableDef → Bool
is_of_paths None = false
is_of_paths (Some table) = is_path_form table.shape

-- whether the rows of the table of a name are paths
abbrev pub has_paths : List TableDef → List ℕ → Bool
has_paths tables name = is_of_paths (option_and_then (slice_get tables) (table_named tables name))

unfoldable pub named_row_of : List TableDef → Data → Result NamedRow TextFault
named_row_of tables d = do
  table ← words_at (codes "t") d
  key ← number_at (codes "k") d
  _ ← without_flag (get (codes "gone") d)
  row ← row_of (has_paths tables table) d
  Ok (record { table = table; key = key; row = row })

unfoldable pub live_rows_of : List TableDef → Data → Result (List NamedRow) TextFault
live_rows_of tables d = list_at (codes "live") d >>= each (named_row_of tables)

-- at their cells -----------------------------------------------------------------------------

abbrev pub table_or_bad_row : Option ℕ → Result ℕ TextFault
table_or_bad_row None = Err BadRow
table_or_bad_row (Some table) = Ok table

unfoldable pub cell_of : List TableDef → List ℕ → ℤ → Result CellId TextFault
cell_of tables name key = table_or_bad_row (table_named tables name) >>= λ table. Ok (record { table = table; key = key })

-- a content with one more row, which must fit the schema, at a cell that has none
unfoldable pub with_named_row : List TableDef → Content → NamedRow → Result Content TextFault
with_named_row tables content named = do
  cell ← cell_of tables named.table named.key
  _ ← none_or_fault BadRow (row_fault tables cell named.row)
  _ ← none_or_fault RepeatedCell (row_at content cell)
  Ok (set_cell content cell (Some named.row))

-- a content with more rows, one after another
unfoldable pub with_named_rows : List TableDef → Content → List NamedRow → Result Content TextFault
with_named_rows tables content [] = Ok content
with_named_rows tables content (named ∷ others) = do
  more ← with_named_row tables content named
  with_named_rows tables more others

-- the content of LIVE: each row is read for BadField before any is put in
unfoldable pub live_of : List TableDef → Data → Result Content TextFault
live_of tables d = live_rows_of tables d >>= with_named_rows tables no_rows
