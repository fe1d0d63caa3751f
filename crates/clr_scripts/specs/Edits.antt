-- The edit that a record is, or its first fault.
use Rattle.std.specs.Prelude.{ℕ, ◌+◌, ◌-◌, ◌/◌, ◌%◌, ◌==◌, ◌&&◌, ℤ, Bool, List, [], ◌∷◌, length, drop, codes, nat_le}
use Rattle.std.specs.Prelude.{Option, Result, Ok, Err, option_map, slice_get, if◌then◌else◌}
use Rattle.std.specs.Option.{option_and_then}
use Rattle.std.specs.Str.{bytes_eq}
use Rattle.clr_rows.specs.declared.cells.CellId.{CellId}
use Rattle.clr_rows.specs.declared.limits.TheConstants.{LEAST_VERTICES, MOST_VERTICES}
use Rattle.clr_rows.specs.declared.places.Place.{Place}
use Rattle.clr_rows.specs.declared.places.Shape.{Shape}
use Rattle.clr_rows.specs.declared.places.Shape.TheVariants.{Bare, At, Line, Chain}
use Rattle.clr_rows.specs.declared.rows.Value.{Value}
use Rattle.clr_rows.specs.declared.rows.Row.{Row}
use Rattle.clr_rows.specs.declared.tables.Kind.{Kind}
use Rattle.clr_rows.specs.declared.tables.Form.{Form}
use Rattle.clr_rows.specs.declared.tables.Form.TheVariants as form
use Rattle.clr_rows.specs.declared.tables.TableDef.{TableDef}
use Rattle.clr_rows.specs.Schemas.{table_named}
use Rattle.clr_change.specs.declared.edits.Edit.{Edit}
use Rattle.clr_change.specs.declared.edits.Edit.TheVariants as edit
use Rattle.clr_scripts.specs.declared.faults.RecordFault.{RecordFault}
use Rattle.clr_scripts.specs.declared.faults.RecordFault.TheVariants.{FieldCount, BadWord, NoTable, BadNumber}
use Rattle.clr_scripts.specs.declared.edits.Verb.{Verb}
use Rattle.clr_scripts.specs.declared.edits.Verb.TheVariants.{Insert, Update, Delete}
use Rattle.clr_records.specs.Decimals.{number_of}
use Rattle.clr_readings.specs.Readings.{◌>>=◌, or_fault}
use Rattle.clr_records.specs.Records.{field_of, at_record, in_turn}
use Rattle.clr_records.specs.Values.{value_of_kind}
use Rattle.clr_scripts.specs.Records.{records_or_fault}

-- what an edit does, by the word that it begins with
abbrev pub verb_of : List ℕ → Result Verb RecordFault
verb_of word =
    if bytes_eq word (codes "insert") then Ok Insert
    else (if bytes_eq word (codes "update") then Ok Update
    else (if bytes_eq word (codes "delete") then Ok Delete
    else Err BadWord))

abbrev pub whole_number : List ℕ → Result ℤ RecordFault
whole_number text = or_fault BadNumber (number_of text)

-- the number of the table of a name, with the table
abbrev pub table_of : List TableDef → List ℕ → Option (ℕ × TableDef)
table_of tables name = option_and_then (λ n. option_map (λ table. (n, table)) (slice_get tables n)) (table_named tables name)

-- whether a row of a form can have so many coordinates: those of a path are two for each vertex
abbrev pub can_have_coordinates : Form → ℕ → Bool
can_have_coordinates form.Bare n = n == 0
can_have_coordinates form.Point n = n == 2
can_have_coordinates form.Segment n = n == 4
can_have_coordinates form.Path n = (n % 2 == 0) && nat_le LEAST_VERTICES (n / 2) && nat_le (n / 2) MOST_VERTICES

-- whether an insertion or an update can have so many fields, from its word on
abbrev pub row_can_have_fields : TableDef → ℕ → Bool
row_can_have_fields table n = nat_le (3 + length table.columns) n && can_have_coordinates table.shape (n - (3 + length table.columns))

-- whether an edit can have so many fields, from its word on
abbrev pub can_have_fields : Verb → TableDef → ℕ → Bool
can_have_fields Insert table n = row_can_have_fields table n
can_have_fields Update table n = row_can_have_fields table n
can_have_fields Delete table n = n == 3

abbrev pub value_of : Kind → List ℕ → Result Value RecordFault
value_of kind text = or_fault BadNumber (value_of_kind kind text)

-- a value for each column, in the fields from a position on
abbrev pub values_of : List (List ℕ × Kind) → List (List ℕ) → ℕ → Result (List Value) RecordFault
values_of columns fields at = in_turn (λ i column. value_of column.1 (field_of fields i)) at columns

unfoldable pub place_in : List ℕ → List ℕ → Result Place RecordFault
place_in x y = do
  x ← whole_number x
  y ← whole_number y
  Ok (record { x = x; y = y })

-- a place, in two fields from a position on
abbrev pub place_of : List (List ℕ) → ℕ → Result Place RecordFault
place_of fields at = place_in (field_of fields at) (field_of fields (at + 1))

-- the vertices that fields are, two for each vertex; none is left over
unfoldable pub vertices_of : List (List ℕ) → Result (List Place) RecordFault
vertices_of [] = Ok []
vertices_of (x ∷ []) = Err FieldCount
vertices_of (x ∷ (y ∷ more)) = do
  place ← place_in x y
  others ← vertices_of more
  Ok (place ∷ others)

-- a shape of a form, in the fields from a position on
abbrev pub shape_of : Form → List (List ℕ) → ℕ → Result Shape RecordFault
shape_of form.Bare fields at = Ok Bare
shape_of form.Point fields at = place_of fields at >>= λ p. Ok (At p)
shape_of form.Path fields at = vertices_of (drop at fields) >>= λ vertices. Ok (Chain vertices)
shape_of form.Segment fields at = place_of fields at >>= λ p. place_of fields (at + 2) >>= λ q. Ok (Line p q)

-- the row of an edit: its values, and then its coordinates
unfoldable pub row_of : TableDef → List (List ℕ) → Result Row RecordFault
row_of table fields = do
  values ← values_of table.columns fields 3
  shape ← shape_of table.shape fields (3 + length table.columns)
  Ok (record { values = values; shape = shape })

abbrev pub edit_by_verb : Verb → CellId → TableDef → List (List ℕ) → Result Edit RecordFault
edit_by_verb Insert cell table fields = row_of table fields >>= λ row. Ok (edit.Insert cell row)
edit_by_verb Update cell table fields = row_of table fields >>= λ row. Ok (edit.Update cell row)
edit_by_verb Delete cell table fields = Ok (edit.Delete cell)

-- an edit of a known table: the count of fields is tested first, and then the numbers from left to right
unfoldable pub edit_in : Verb → ℕ → TableDef → List (List ℕ) → Result Edit RecordFault
edit_in verb number table fields =
    if can_have_fields verb table (length fields)
    then (whole_number (field_of fields 2) >>= λ key. edit_by_verb verb (record { table = number; key = key }) table fields)
    else Err FieldCount

-- the edit that a record is: the word is tested first, then that there are at least three fields, then the table, and then the rest
unfoldable pub edit_of : List TableDef → List (List ℕ) → Result Edit RecordFault
edit_of tables fields = do
  verb ← verb_of (field_of fields 0)
  table ← (if nat_le 3 (length fields) then or_fault NoTable (table_of tables (field_of fields 1)) else Err FieldCount)
  edit_in verb table.0 table.1 fields

abbrev pub edits_from : List TableDef → ℕ → List (List (List ℕ)) → Result (List Edit) (ℕ × RecordFault)
edits_from tables n rows = in_turn (λ i fields. at_record i (edit_of tables fields)) n rows

-- the edits of records, or the first fault
abbrev pub edits_of : List TableDef → List (List (List ℕ)) → Result (List Edit) (ℕ × RecordFault)
edits_of tables rows = edits_from tables 1 rows

-- the edits of a text
abbrev pub edits_in_text : List TableDef → List ℕ → Result (List Edit) (ℕ × RecordFault)
edits_in_text tables bytes = records_or_fault bytes >>= λ rows. edits_of tables rows
