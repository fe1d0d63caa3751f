-- Why a row can't stand at its cell: which value or coordinate it is, and what is told of it.
use Rattle.std.specs.Prelude.{ℕ, ℤ, pos, List, [], ◌∷◌, ◌++◌, codes, decimal, length, map, nat_le, Bool, not, Option, Some, None, is_some, option_and_then}
use Rattle.std.specs.Prelude.{slice_get, unwrap_or, if◌then◌else◌}
use Rattle.std.specs.Fmt.{signed_decimal}
use Rattle.std.specs.Option.{option_map_or}
use Rattle.std.specs.List.{enumerate_from, join_by}
use Rattle.serde_json.specs.Data.{Data}
use Rattle.serde_json.specs.Find.{as_str}
use Rattle.clr_hints.specs.Values.{kind_in_words}
use Rattle.clr_rows.specs.declared.faults.RowFault.{RowFault}
use Rattle.clr_rows.specs.declared.faults.RowFault.TheVariants as fault
use Rattle.clr_rows.specs.declared.limits.TheConstants.{GREATEST_COORDINATE, GREATEST_KEY, MOST_TEXT_BYTES}
use Rattle.clr_rows.specs.declared.tables.Kind.{Kind}
use Rattle.clr_rows.specs.declared.tables.Kind.TheVariants as kind
use Rattle.clr_rows.specs.declared.tables.TableDef.{TableDef}
use Rattle.clr_rows.specs.Schemas.{is_coordinate, is_key, names_of}
use Rattle.clr_text_positions.specs.declared.paths.Key.{Key}
use Rattle.clr_text_positions.specs.declared.paths.Key.TheVariants as key
use Rattle.clr_text_positions.specs.declared.paths.PathStep.TheVariants as step
use Rattle.clr_office_reading.specs.Tables.{kind_word}
use Rattle.clr_item_explanations.specs.Rows.{coordinates_text}
use Rattle.clr_item_explanations.specs.Tellings.{OfName, OfValue, Plain, Telling, Wrong, at_key, first_wrong, itself}
use Rattle.clr_item_explanations.specs.Values.{items_at, table_called, text_at, value_at, whole_number}

-- an item of the list at a key
abbrev pub at_item : Key → ℕ → Telling → Wrong
at_item k at telling = record { steps = step.Key k ∷ step.At at ∷ []; telling = telling }

-- values -------------------------------------------------------------------------------------

abbrev pub columns_text : TableDef → List (List ℕ) → List ℕ
columns_text table [] = codes "table " ++ table.name ++ codes " has no columns"
columns_text table (name ∷ names) =
    codes "the columns of table " ++ table.name ++ codes " are " ++ join_by (λ one. one) (codes ", ") (name ∷ names)

-- there are more or fewer values than columns
unfoldable pub wrong_value_count : TableDef → Data → Wrong
wrong_value_count table d =
    at_key key.V (Plain (decimal (length (items_at key.V d)) ++ codes " values; " ++ columns_text table (names_of table.columns)))

-- a text stands in a column of numbers, or what is no text in one of texts
abbrev pub is_of_other_kind : Kind → Data → Bool
is_of_other_kind kind.Int d = is_some (as_str d)
is_of_other_kind kind.Words d = not (is_some (as_str d))

unfoldable pub column_text : List ℕ → Kind → List ℕ
column_text name k = codes "column " ++ name ++ codes " is " ++ kind_word k ++ codes ", and "

-- of a value that stands in a column: the column's name and its kind, the value, and of which kind that is
abbrev pub of_column : List ℕ × Kind → ℕ × Data → Wrong
of_column column value = at_item key.V value.0 (OfValue (column_text column.0 column.1) value.1 (codes " is " ++ kind_in_words value.1))

abbrev pub of_other_kind : List ℕ × Kind → ℕ × Data → Option Wrong
of_other_kind column value = if is_of_other_kind column.1 value.1 then Some (of_column column value) else None

-- a value, by its place in the row, is of another kind than the column at that place
unfoldable pub wrong_in_column : TableDef → ℕ × Data → Option Wrong
wrong_in_column table value = option_and_then (λ column. of_other_kind column value) (slice_get table.columns value.0)

-- the first value that is of another kind than its column
unfoldable pub wrong_kind : TableDef → Data → Wrong
wrong_kind table d =
    unwrap_or (first_wrong (wrong_in_column table) (enumerate_from 0 (items_at key.V d)))
    (at_key key.V (Plain (codes "a value is of another kind than its column")))

-- the bytes of a text; what is no text has none
abbrev pub byte_count : Data → ℕ
byte_count d = length (unwrap_or (as_str d) [])

abbrev pub long_text_words : ℕ → List ℕ
long_text_words bytes = codes "a text of " ++ decimal bytes ++ codes " bytes; at most " ++ decimal MOST_TEXT_BYTES ++ codes " may stand here"

abbrev pub of_long_text : ℕ × Data → Wrong
of_long_text value = at_item key.V value.0 (Plain (long_text_words (byte_count value.1)))

abbrev pub too_long : ℕ × Data → Option Wrong
too_long value = if nat_le (byte_count value.1) MOST_TEXT_BYTES then None else Some (of_long_text value)

-- the first text that is too long
unfoldable pub wrong_length : Data → Wrong
wrong_length d = unwrap_or (first_wrong too_long (enumerate_from 0 (items_at key.V d))) (at_key key.V (Plain (codes "a text is too long")))

-- the place of a row -------------------------------------------------------------------------

abbrev pub shape_words : ℕ → TableDef → List ℕ
shape_words count table = decimal count ++ codes " coordinates in table " ++ table.name ++ codes "; " ++ coordinates_text (Some table.shape)

-- the shape isn't that of the table
unfoldable pub wrong_shape : TableDef → Data → Wrong
wrong_shape table d = at_key key.S (Plain (shape_words (length (items_at key.S d)) table))

-- a number; what is no whole number counts as 0
abbrev pub number_or_zero : Data → ℤ
number_or_zero d = unwrap_or (whole_number d) (pos 0)

abbrev pub far_words : ℤ → List ℕ
far_words number = codes "the coordinate " ++ signed_decimal number ++ codes " is beyond " ++ decimal GREATEST_COORDINATE ++ codes " millimetres"

abbrev pub of_far_coordinate : ℕ × Data → Wrong
of_far_coordinate value = at_item key.S value.0 (Plain (far_words (number_or_zero value.1)))

abbrev pub too_far : ℕ × Data → Option Wrong
too_far value = if is_coordinate (number_or_zero value.1) then None else Some (of_far_coordinate value)

-- the first coordinate that is beyond its limit
unfoldable pub far_coordinate : Data → Wrong
far_coordinate d =
    unwrap_or (first_wrong too_far (enumerate_from 0 (items_at key.S d))) (itself (Plain (codes "the key or a coordinate is out of range")))

abbrev pub far_key_words : ℤ → List ℕ
far_key_words number = codes "the key " ++ signed_decimal number ++ codes " isn't from 1 to " ++ signed_decimal GREATEST_KEY

abbrev pub of_far_key : ℤ → Wrong
of_far_key number = at_key key.K (Plain (far_key_words number))

abbrev pub unless_key : ℤ → Option ℤ
unless_key number = if is_key number then None else Some number

-- the whole number at the key, where it is none that a key may be
unfoldable pub far_key : Data → Option ℤ
far_key d = option_and_then unless_key (option_and_then whole_number (value_at key.K d))

-- the key, and else the first coordinate
unfoldable pub out_of_range : Data → Wrong
out_of_range d = option_map_or of_far_key (far_key d) (far_coordinate d)

-- by the fault -------------------------------------------------------------------------------

abbrev pub wrong_in_table : RowFault → TableDef → Data → Wrong
wrong_in_table fault.NoTable table d = out_of_range d
wrong_in_table fault.WrongCount table d = wrong_value_count table d
wrong_in_table fault.WrongKind table d = wrong_kind table d
wrong_in_table fault.WordsTooLong table d = wrong_length d
wrong_in_table fault.WrongShape table d = wrong_shape table d
wrong_in_table fault.OutOfRange table d = out_of_range d
wrong_in_table fault.ZeroSegment table d = at_key key.S (Plain (codes "two vertices that follow one another are one place"))
wrong_in_table fault.BadPath table d = at_key key.S (Plain (codes "a path has 2 to 32 vertices"))

-- no table has the name at `t`
unfoldable pub unknown_table : List TableDef → Data → Wrong
unknown_table tables d =
    at_key key.T (OfName (codes "no table is called '" ++ text_at key.T d ++ codes "'") (text_at key.T d) (map (λ table. table.name) tables))

-- what is wrong with a row that has a fault
unfoldable pub wrong_of_row : List TableDef → RowFault → Data → Wrong
wrong_of_row tables f d = option_map_or (λ table. wrong_in_table f table d) (table_called tables (text_at key.T d)) (unknown_table tables d)
