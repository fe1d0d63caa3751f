-- What is said of a record that is read as an edit.
use Rattle.std.specs.Prelude.{ℕ, ◌-◌, ◌==◌, nat_lt, Bool, true, false, List, ◌++◌, length, slice_get, codes, decimal, Option, Some, None, unwrap_or}
use Rattle.std.specs.Prelude.{◌&&◌, if◌then◌else◌}
use Rattle.std.specs.List.{find, join_by, range_with_len}
use Rattle.std.specs.Option.{is_none, option_and_then}
use Rattle.std.specs.Str.{bytes_eq}
use Rattle.clr_rows.specs.Schemas.{names_of, table_named}
use Rattle.clr_rows.specs.declared.tables.Kind.{Kind}
use Rattle.clr_rows.specs.declared.tables.Kind.TheVariants.{Int, Words}
use Rattle.clr_rows.specs.declared.tables.TableDef.{TableDef}
use Rattle.clr_records.specs.Decimals.{number_of}
use Rattle.clr_records.specs.Records.{field_of}
use Rattle.clr_scripts.specs.declared.faults.RecordFault.{RecordFault}
use Rattle.clr_scripts.specs.declared.faults.RecordFault.TheVariants as fault
use Rattle.clr_record_explanations.specs.FirstFaults.{RecordFields}
use Rattle.clr_record_explanations.specs.RecordSlips.{Said, no_number, no_table}

-- the table that an edit names
abbrev pub table_of : List TableDef → RecordFields → Option TableDef
table_of tables fields = option_and_then (slice_get tables) (table_named tables (field_of fields 1))

-- counts of fields ---------------------------------------------------------------------------

-- the names of the columns of a table, with commas between them
abbrev pub listed_columns : TableDef → List ℕ
listed_columns table = join_by (λ name. name) (codes ", ") (names_of table.columns)

abbrev pub delete_count : List ℕ → ℕ → List ℕ
delete_count name count = codes "delete," ++ name ++ codes ",KEY has 3 fields, and here are " ++ decimal count

abbrev pub row_count : List ℕ → TableDef → ℕ → List ℕ
row_count word table count =
    codes "behind " ++ word ++ codes "," ++ table.name ++ codes ",KEY stand the values of " ++ listed_columns table
    ++ codes " and then the coordinates; here are " ++ decimal count ++ codes " fields in all"

-- an edit of a table hasn't as many fields as it must have
abbrev pub count_sentence_of : RecordFields → TableDef → List ℕ
count_sentence_of fields table =
    if bytes_eq (field_of fields 0) (codes "delete") then delete_count table.name (length fields)
    else row_count (field_of fields 0) table (length fields)

abbrev pub count_sentence : RecordFields → Option TableDef → List ℕ
count_sentence fields None = codes "an edit has at least 3 fields, and here are " ++ decimal (length fields)
count_sentence fields (Some table) = count_sentence_of fields table

abbrev pub wrong_edit_count : List TableDef → RecordFields → Said
wrong_edit_count tables fields = (0, count_sentence fields (table_of tables fields))

-- numbers ------------------------------------------------------------------------------------

abbrev pub is_int : Kind → Bool
is_int Int = true
is_int Words = false

-- a value of a column INT is a number, and so is what stands behind the values: a coordinate
abbrev pub is_number_column : Option (List ℕ × Kind) → Bool
is_number_column None = true
is_number_column (Some column) = is_int column.1

-- a value or a coordinate of a known table must be a number, by its place behind the key
abbrev pub is_number_behind_key : Option TableDef → ℕ → Bool
is_number_behind_key None at = false
is_number_behind_key (Some table) at = is_number_column (slice_get table.columns at)

-- a field must be a number: the key, a value of a column INT, a coordinate
abbrev pub is_number_field : Option TableDef → ℕ → Bool
is_number_field table at = if nat_lt at 3 then at == 2 else is_number_behind_key table (at - 3)

-- a field must be a number and is none
abbrev pub lacks_number : Option TableDef → RecordFields → ℕ → Bool
lacks_number table fields at = is_number_field table at && is_none (number_of (field_of fields at))

-- the first such field, from the key on
abbrev pub find_number_place : Option TableDef → RecordFields → Option ℕ
find_number_place table fields = find (λ at. lacks_number table fields at) (range_with_len 2 (length fields - 2))

abbrev pub number_place : List TableDef → RecordFields → ℕ
number_place tables fields = unwrap_or (find_number_place (table_of tables fields) fields) 2

-- words --------------------------------------------------------------------------------------

abbrev pub wrong_edit_word : RecordFields → Said
wrong_edit_word fields = (0, codes "'" ++ field_of fields 0 ++ codes "' is none of insert, update and delete, and apply asks for an edit here")

-- what is said of an edit, by its fault
abbrev pub edit_slip : List TableDef → RecordFault → RecordFields → Said
edit_slip tables fault.FieldCount fields = wrong_edit_count tables fields
edit_slip tables fault.NoTable fields = no_table 1 fields
edit_slip tables fault.BadNumber fields = no_number (number_place tables fields) fields
edit_slip tables fault.BadWord fields = wrong_edit_word fields
edit_slip tables fault.NotCsv fields = wrong_edit_word fields
edit_slip tables fault.OutOfMemory fields = wrong_edit_word fields
