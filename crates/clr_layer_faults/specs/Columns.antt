-- The columns of a layer, and which of them has the fault of a record.
use Rattle.std.specs.Prelude.{ℕ, ◌+◌, ◌-◌, ◌==◌, ◌&&◌, nat_lt, not, Bool, true, false, List, length, position, slice_get}
use Rattle.std.specs.Prelude.{Option, Some, None, is_none, unwrap_or, if◌then◌else◌}
use Rattle.std.specs.Option.{option_map_or}
use Rattle.std.specs.Str.{bytes_eq}
use Rattle.clr_rows.specs.declared.faults.RowFault.TheVariants.{OutOfRange, WordsTooLong}
use Rattle.clr_rows.specs.declared.limits.TheConstants.{KEY, MOST_TEXT_BYTES}
use Rattle.clr_rows.specs.declared.tables.Kind.{Kind}
use Rattle.clr_rows.specs.declared.tables.Kind.TheVariants as kind
use Rattle.clr_rows.specs.declared.tables.TableDef.{TableDef}
use Rattle.clr_rows.specs.Schemas.{is_key}
use Rattle.clr_records.specs.Decimals.{number_of}
use Rattle.clr_records.specs.Records.{field_of}
use Rattle.clr_layer_text.specs.Layers.{is_bare}
use Rattle.clr_layer_text.specs.Pieces.{is_empty}
use Rattle.clr_layer_text.specs.declared.faults.LayerFault.{LayerFault}
use Rattle.clr_layer_text.specs.declared.faults.LayerFault.TheVariants.{BadNumber, FieldCount, Unfit}
use Rattle.clr_layer_text.specs.declared.limits.TheConstants.{SHAPE}

-- columns are counted from 0: KEY, then those of the table, and behind them that of the shapes --------

abbrev pub shape_column : TableDef → ℕ
shape_column table = length table.columns + 1

-- how many columns the layers of a table have
abbrev pub column_count : TableDef → ℕ
column_count table = length table.columns + (if is_bare table.shape then 1 else 2)

abbrev pub column_name : TableDef → ℕ → List ℕ
column_name table column = if column == 0 then KEY.now else option_map_or (λ one. one.0) (slice_get table.columns (column - 1)) SHAPE.now

-- where a name stands in a header, or its front
abbrev pub place_in : List (List ℕ) → List ℕ → ℕ
place_in names name = unwrap_or (position (λ other. bytes_eq other name) names) 0

-- the field of a record below a name of the header
abbrev pub field_under : List (List ℕ) → List (List ℕ) → List ℕ → List ℕ
field_under names fields name = field_of fields (place_in names name)

-- the column that has the fault of a record -------------------------------------------------------------

-- a text that is neither a number nor empty can't be a key
abbrev pub is_no_key : List ℕ → Bool
is_no_key text = not (is_empty text) && is_none (number_of text)

-- a number that is beyond the limits of keys
abbrev pub is_far_key : List ℕ → Bool
is_far_key text = option_map_or (λ key. not (is_key key)) (number_of text) false

abbrev pub is_int : Kind → Bool
is_int kind.Int = true
is_int kind.Words = false

-- the field of a column of numbers is none
abbrev pub lacks_number : List (List ℕ) → List (List ℕ) → List ℕ × Kind → Bool
lacks_number names fields column = is_int column.1 && is_none (number_of (field_under names fields column.0))

-- the field of a column of texts is longer than a text may be
abbrev pub is_too_long : List (List ℕ) → List (List ℕ) → List ℕ × Kind → Bool
is_too_long names fields column = not (is_int column.1) && nat_lt MOST_TEXT_BYTES (length (field_under names fields column.0))

-- a column of the table by its place there, or the first
abbrev pub column_behind_key : Option ℕ → ℕ
column_behind_key None = 1
column_behind_key (Some at) = at + 1

-- the key where it is no number, or else the first column of numbers that has none
abbrev pub number_column : TableDef → List (List ℕ) → List (List ℕ) → ℕ
number_column table names fields =
    if is_no_key (field_under names fields KEY.now) then 0 else column_behind_key (position (lacks_number names fields) table.columns)

-- the first column with a text that is too long
abbrev pub text_column : TableDef → List (List ℕ) → List (List ℕ) → ℕ
text_column table names fields = column_behind_key (position (is_too_long names fields) table.columns)

-- the key where it is beyond its limits, or else the shape
abbrev pub range_column : TableDef → List (List ℕ) → List (List ℕ) → ℕ
range_column table names fields = if is_far_key (field_under names fields KEY.now) then 0 else shape_column table

-- the column that has the fault of a record, if a single one has it; all but four kinds are faults of shapes
abbrev pub faulty_column : TableDef → List (List ℕ) → List (List ℕ) → LayerFault → Option ℕ
faulty_column table names fields FieldCount = None
faulty_column table names fields BadNumber = Some (number_column table names fields)
faulty_column table names fields (Unfit WordsTooLong) = Some (text_column table names fields)
faulty_column table names fields (Unfit OutOfRange) = Some (range_column table names fields)
faulty_column table names fields _ = Some (shape_column table)
