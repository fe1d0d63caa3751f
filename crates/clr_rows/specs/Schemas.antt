-- Schemas: which tables make one, and which rows fit one.
use Rattle.std.specs.Prelude.{◌≡◌, ℕ, ℤ, pos, Bool, true, false, not, List, [], ◌∷◌, ◌&&◌, ◌==◌, length, map}
use Rattle.std.specs.Prelude.{nat_le, int_le, Option, Some, None, slice_get, position, unsigned_abs, option_map, unwrap_or, if◌then◌else◌, Result, Ok, Err}
use Rattle.std.specs.List.{list_all, list_any, zip}
use Rattle.std.specs.Option.{option_and_then}
use Rattle.std.specs.Str.{bytes_eq}
use Rattle.clr_rows.specs.declared.tables.TableDef.{TableDef}
use Rattle.clr_rows.specs.declared.tables.Kind.{Kind}
use Rattle.clr_rows.specs.declared.tables.Kind.TheVariants as kind
use Rattle.clr_rows.specs.declared.tables.Form.{Form}
use Rattle.clr_rows.specs.declared.tables.Form.TheVariants as form
use Rattle.clr_rows.specs.declared.faults.SchemaFault.{SchemaFault}
use Rattle.clr_rows.specs.declared.faults.SchemaFault.TheVariants as unfit
use Rattle.clr_rows.specs.declared.faults.RowFault.{RowFault}
use Rattle.clr_rows.specs.declared.faults.RowFault.TheVariants.{NoTable, WrongCount, WrongKind, WordsTooLong, WrongShape, OutOfRange, ZeroSegment, BadPath}
use Rattle.clr_rows.specs.declared.limits.TheConstants.{MOST_TABLES, MOST_COLUMNS, MOST_TEXT_BYTES}
use Rattle.clr_rows.specs.declared.limits.TheConstants.{GREATEST_KEY, GREATEST_COORDINATE, LEAST_VERTICES, MOST_VERTICES}
use Rattle.clr_rows.specs.declared.places.Place.{Place}
use Rattle.clr_rows.specs.declared.places.Shape.{Shape}
use Rattle.clr_rows.specs.declared.places.Shape.TheVariants.{Bare, At, Line, Chain}
use Rattle.clr_rows.specs.declared.rows.Value.{Value}
use Rattle.clr_rows.specs.declared.rows.Value.TheVariants.{Int, Words}
use Rattle.clr_rows.specs.declared.rows.Row.{Row}
use Rattle.clr_rows.specs.declared.cells.CellId.{CellId}
use Rattle.clr_rows.specs.Names.{is_good_name, is_key_word}
use Rattle.clr_rows.specs.Contents.{Content, row_at}
use Rattle.clr_rows.specs.Numbers.{is_i64}
use Rattle.clr_rows.specs.Parts.{parts_of}
use Rattle.clr_rows.specs.Same.{same_place}

-- what a call returns: the fault, where there is one, and success where there is none
abbrev pub Answers : {E : Type 0} → Result Unit E → Option E → Type 0
Answers (Ok _) fault = fault ≡ None
Answers (Err e) fault = fault ≡ Some e

-- schemas ------------------------------------------------------------------------------------

abbrev pub names_of : {A : Type 0} → List (List ℕ × A) → List (List ℕ)
names_of columns = map (λ c. c.0) columns

-- no name stands twice
abbrev pub are_distinct : List (List ℕ) → Bool
are_distinct [] = true
are_distinct (name ∷ names) = not (list_any (bytes_eq name) names) && are_distinct names

abbrev pub has_room : TableDef → Bool
has_room table = nat_le (length table.columns) MOST_COLUMNS

abbrev pub is_column_name : List ℕ → Bool
is_column_name name = is_good_name name && not (is_key_word name)

abbrev pub has_good_names : TableDef → Bool
has_good_names table = is_good_name table.name && list_all (λ c. is_column_name c.0) table.columns

abbrev pub has_distinct_columns : TableDef → Bool
has_distinct_columns table = are_distinct (names_of table.columns)

-- the first test that fails, each made over all tables before the next
unfoldable pub schema_fault : List TableDef → Option SchemaFault
schema_fault tables =
    if not (nat_le (length tables) MOST_TABLES && list_all has_room tables) then Some unfit.TooMany
    else (if not (list_all has_good_names tables) then Some unfit.BadName
    else (if not (are_distinct (map (λ t. t.name) tables) && list_all has_distinct_columns tables) then Some unfit.NameTaken
    else None))

-- a table's name, or no bytes where there is no such table
abbrev pub name_of_table : List TableDef → ℕ → List ℕ
name_of_table tables n = unwrap_or (option_map (λ table. table.name) (slice_get tables n)) []

-- the number of the table of this name
abbrev pub table_named : List TableDef → List ℕ → Option ℕ
table_named tables name = position (λ t. bytes_eq t.name name) tables

-- the number of the column of this name, of these columns or of a table's
abbrev pub named_in : List (List ℕ × Kind) → List ℕ → Option ℕ
named_in columns name = position (λ c. bytes_eq c.0 name) columns

abbrev pub column_named : List TableDef → ℕ → List ℕ → Option ℕ
column_named tables table name = option_and_then (λ t. named_in t.columns name) (slice_get tables table)

-- rows that fit ------------------------------------------------------------------------------

abbrev pub is_of_kind : Kind → Value → Bool
is_of_kind kind.Int (Int n) = true
is_of_kind kind.Words (Words text) = true
is_of_kind _ _ = false

abbrev pub are_of_kinds : List (List ℕ × Kind) → List Value → Bool
are_of_kinds columns values = list_all (λ p. is_of_kind p.0.1 p.1) (zip columns values)

-- a value that is no text, or one of no more bytes than the most
abbrev pub is_short : Value → Bool
is_short (Int n) = true
is_short (Words text) = nat_le (length text) MOST_TEXT_BYTES

abbrev pub is_of_form : Form → Shape → Bool
is_of_form form.Bare Bare = true
is_of_form form.Point (At p) = true
is_of_form form.Segment (Line p q) = true
is_of_form form.Path (Chain vertices) = true
is_of_form _ _ = false

abbrev pub is_key : ℤ → Bool
is_key key = int_le (pos 1) key && int_le key GREATEST_KEY

abbrev pub is_coordinate : ℤ → Bool
is_coordinate z = nat_le (unsigned_abs z) GREATEST_COORDINATE

abbrev pub is_place : Place → Bool
is_place p = is_coordinate p.x && is_coordinate p.y

abbrev pub has_coordinates : Shape → Bool
has_coordinates Bare = true
has_coordinates (At p) = is_place p
has_coordinates (Line p q) = is_place p && is_place q
has_coordinates (Chain vertices) = list_all is_place vertices

-- a whole number within 64 bits, as every number of the program is
abbrev pub is_number : Value → Bool
is_number (Int n) = is_i64 n
is_number (Words text) = true

-- a part ends where it begins
abbrev pub has_zero_part : Shape → Bool
has_zero_part shape = list_any (λ part. same_place part.0 part.1) (parts_of shape)

-- a path of too few or too many vertices
abbrev pub is_bad_path : Shape → Bool
is_bad_path (Chain vertices) = not (nat_le LEAST_VERTICES (length vertices) && nat_le (length vertices) MOST_VERTICES)
is_bad_path _ = false

-- the key, each coordinate and each number is within its range
abbrev pub is_in_range : CellId → Row → Bool
is_in_range cell row = is_key cell.key && has_coordinates row.shape && list_all is_number row.values

-- the first test that a row of a table fails
abbrev pub fault_in : TableDef → CellId → Row → Option RowFault
fault_in table cell row =
    if not (length row.values == length table.columns) then Some WrongCount
    else (if not (are_of_kinds table.columns row.values) then Some WrongKind
    else (if not (list_all is_short row.values) then Some WordsTooLong
    else (if not (is_of_form table.shape row.shape) then Some WrongShape
    else (if not (is_in_range cell row) then Some OutOfRange
    else (if has_zero_part row.shape then Some ZeroSegment
    else (if is_bad_path row.shape then Some BadPath
    else None))))))

abbrev pub fault_at : Option TableDef → CellId → Row → Option RowFault
fault_at None cell row = Some NoTable
fault_at (Some table) cell row = fault_in table cell row

-- why a row can't stand at a cell, if it can't
unfoldable pub row_fault : List TableDef → CellId → Row → Option RowFault
row_fault tables cell row = fault_at (slice_get tables cell.table) cell row

abbrev pub key_fault : Option TableDef → CellId → Option RowFault
key_fault None cell = Some NoTable
key_fault (Some table) cell = if is_key cell.key then None else Some OutOfRange

-- why a cell names no row that could stand, if it names none
unfoldable pub cell_fault : List TableDef → CellId → Option RowFault
cell_fault tables cell = key_fault (slice_get tables cell.table) cell

-- each row of a content fits the schema
abbrev pub FitsSchema : List TableDef → Content → Type 0
FitsSchema tables content = (cell : CellId) (row : Row) → row_at content cell ≡ Some row → row_fault tables cell row ≡ None
