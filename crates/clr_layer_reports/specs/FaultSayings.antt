-- What is said of a fault of a layer: its name, a sentence, the row, and a hint.
use Rattle.std.specs.Prelude.{ℕ, ◌-◌, ◌==◌, false, List, [], ◌++◌, codes, decimal, flat_map, length, nat_lt, slice_get, take}
use Rattle.std.specs.Prelude.{Bool, Option, Some, None, is_some, unwrap_or, if◌then◌else◌}
use Rattle.std.specs.List.{find, list_any}
use Rattle.clr_rows.specs.declared.faults.RowFault.{RowFault}
use Rattle.clr_rows.specs.declared.faults.RowFault.TheVariants as row
use Rattle.clr_rows.specs.declared.limits.TheConstants.{KEY}
use Rattle.clr_rows.specs.declared.tables.TableDef.{TableDef}
use Rattle.clr_records.specs.Decimals.{number_of}
use Rattle.clr_streams.specs.Shown.{shown}
use Rattle.clr_hints.specs.Values.{short_text}
use Rattle.clr_lines.specs.Replies.{row_fault_name}
use Rattle.clr_layer_text.specs.declared.faults.LayerFault.{LayerFault}
use Rattle.clr_layer_text.specs.declared.faults.LayerFault.TheVariants as of_text
use Rattle.clr_layer_text.specs.Pieces.{contains_byte, is_empty}
use Rattle.clr_layer_text.specs.Wkt.{same_letters}
use Rattle.clr_layer_changes.specs.declared.faults.LayersFault.{LayersFault}
use Rattle.clr_layer_changes.specs.declared.faults.LayersFault.TheVariants as of_layer
use Rattle.clr_layer_reports.specs.declared.sentences.TheConstants.{MOST_NAMES}
use Rattle.clr_layer_faults.specs.declared.found.FoundFault.{FoundFault}
use Rattle.clr_layer_faults.specs.Columns.{column_name, field_under}
use Rattle.clr_layer_reports.specs.NearNames.{near_at}

-- names -------------------------------------------------------------------------------------------------

-- the name of a fault of a layer's text; of a row that doesn't fit, that of its fault
abbrev pub text_fault_name : LayerFault → List ℕ
text_fault_name of_text.OutOfMemory = codes "OutOfMemory"
text_fault_name of_text.NotCsv = codes "NotCsv"
text_fault_name of_text.NoColumn = codes "NoColumn"
text_fault_name of_text.ColumnTwice = codes "ColumnTwice"
text_fault_name of_text.FieldCount = codes "FieldCount"
text_fault_name of_text.BadNumber = codes "BadNumber"
text_fault_name of_text.NotWkt = codes "NotWkt"
text_fault_name of_text.NotFlat = codes "NotFlat"
text_fault_name of_text.Curve = codes "Curve"
text_fault_name of_text.SeveralParts = codes "SeveralParts"
text_fault_name of_text.NotDecimal = codes "NotDecimal"
text_fault_name of_text.Finer = codes "Finer"
text_fault_name (of_text.Unfit why) = row_fault_name why

abbrev pub fault_name : LayersFault → List ℕ
fault_name of_layer.NoTable = codes "NoTable"
fault_name of_layer.TableTwice = codes "TableTwice"
fault_name (of_layer.Unread fault) = text_fault_name fault
fault_name of_layer.KeyTwice = codes "KeyTwice"
fault_name of_layer.NoKey = codes "NoKey"

-- the name of the column that has a fault
abbrev pub name_in : TableDef → Option ℕ → List ℕ
name_in table None = []
name_in table (Some column) = column_name table column

-- fields ------------------------------------------------------------------------------------------------

-- a text in quotes, cut where it is long, on one line
abbrev pub quoted : List ℕ → List ℕ
quoted text = codes "'" ++ shown false (short_text text) ++ codes "'"

-- what a row that doesn't fit has
abbrev pub unfit_words : RowFault → List ℕ
unfit_words row.NoTable = codes " is of no table"
unfit_words row.WrongCount = codes " is one of too few or too many"
unfit_words row.WrongKind = codes " is of another kind than the column"
unfit_words row.WordsTooLong = codes " has more than 200 bytes"
unfit_words row.WrongShape = codes " isn't of the shape that the rows of the table have"
unfit_words row.OutOfRange = codes " is out of range"
unfit_words row.ZeroSegment = codes " has the same place twice in a row"
unfit_words row.BadPath = codes " has fewer than 2 places or more than 32"

-- what a field has or isn't, where it has a fault that isn't told otherwise
abbrev pub field_words : LayerFault → List ℕ
field_words of_text.NotWkt = codes " is no WKT of a point or a line"
field_words of_text.NotFlat = codes " has more than two coordinates to a place"
field_words of_text.Curve = codes " is of a kind that may have curves"
field_words of_text.SeveralParts = codes " has several parts"
field_words of_text.NotDecimal = codes " has a coordinate that is no decimal number of metres"
field_words of_text.Finer = codes " has a coordinate that is finer than a millimetre"
field_words (of_text.Unfit why) = unfit_words why
field_words _ = codes " can't be read"

-- a field as a sentence shows it
abbrev pub field_text : List ℕ → List ℕ
field_text value = if is_empty value then codes "the empty field" else quoted value

-- a field has a fault, and below which name
abbrev pub field_sentence : List ℕ → List ℕ → List ℕ → List ℕ
field_sentence name value words = codes "column " ++ name ++ codes ": " ++ field_text value ++ words

-- a field of a column of numbers is none
abbrev pub number_text : List ℕ → List ℕ
number_text value = if is_empty value then codes "the field is empty" else quoted value ++ codes " is no whole number in its one form"

abbrev pub number_sentence : List ℕ → List ℕ → List ℕ
number_sentence name value = codes "column " ++ name ++ codes " is INT, and " ++ number_text value

-- headers and records -----------------------------------------------------------------------------------

abbrev pub listed_name : List ℕ → List ℕ
listed_name name = codes " " ++ quoted name

-- that there are more names than are listed
abbrev pub more_names : ℕ → List ℕ
more_names count = if nat_lt MOST_NAMES count then codes " .." else []

-- the first names of a header
abbrev pub listed_names : List (List ℕ) → List ℕ
listed_names names =
    if length names == 0 then codes " none" else flat_map listed_name (take MOST_NAMES names) ++ more_names (length names)

abbrev pub lack_sentence : List ℕ → List ℕ
lack_sentence name = codes "the header has no column " ++ name

abbrev pub heading_sentence : List (List ℕ) → List ℕ
heading_sentence names = codes "; it has" ++ listed_names names

-- a header lacks a column; what it has
abbrev pub missing_sentence : List ℕ → List (List ℕ) → List ℕ
missing_sentence name names = lack_sentence name ++ heading_sentence names

abbrev pub called_sentence : List ℕ → List ℕ
called_sentence table = codes "a column of table " ++ table ++ codes " is called WKT, as that of its shapes is"

abbrev pub named_sentence : List ℕ → List ℕ
named_sentence name = codes "the header has column " ++ name ++ codes " twice"

-- a header has a column twice; or a column of the table is called as that of the shapes
abbrev pub twice_sentence : TableDef → Option ℕ → List ℕ
twice_sentence table None = called_sentence table.name
twice_sentence table (Some column) = named_sentence (column_name table column)

-- a record has another count of fields than the header
abbrev pub count_sentence : ℕ → ℕ → List ℕ
count_sentence count wanted = codes "the record has " ++ decimal count ++ codes " fields, and the header has " ++ decimal wanted

-- by the fault ------------------------------------------------------------------------------------------

-- what is said of a fault of the text, by the header, the fields of the record, and the column
abbrev pub text_sentence : TableDef → List (List ℕ) → List (List ℕ) → Option ℕ → LayerFault → List ℕ
text_sentence table names fields column of_text.NoColumn = missing_sentence (name_in table column) names
text_sentence table names fields column of_text.ColumnTwice = twice_sentence table column
text_sentence table names fields column of_text.FieldCount = count_sentence (length fields) (length names)
text_sentence table names fields column of_text.BadNumber =
    number_sentence (name_in table column) (field_under names fields (name_in table column))
text_sentence table names fields column fault =
    field_sentence (name_in table column) (field_under names fields (name_in table column)) (field_words fault)

-- what is said of a fault in a column
abbrev pub column_sentence : TableDef → List (List ℕ) → List (List ℕ) → Option ℕ → LayersFault → List ℕ
column_sentence table names fields column (of_layer.Unread fault) = text_sentence table names fields column fault
column_sentence table names fields column _ = codes "a row before it has this key"

abbrev pub fault_sentence : TableDef → List (List ℕ) → List (List ℕ) → FoundFault → List ℕ
fault_sentence table names fields found = column_sentence table names fields found.column found.fault

-- the row of a record, where it has a key that is a number
abbrev pub row_text : TableDef → List (List ℕ) → List (List ℕ) → List ℕ
row_text table names fields =
    if is_some (number_of (field_under names fields KEY.now)) then codes ", " ++ table.name ++ codes " " ++ field_under names fields KEY.now else []

-- hints -------------------------------------------------------------------------------------------------

-- what may help where a number of a column is beyond its limits: nothing against a key
abbrev pub range_hint : Option ℕ → List ℕ
range_hint None = []
range_hint (Some column) = if column == 0 then [] else codes "; hint: move the origin, as docs/GIS.md says"

-- what may help where a row doesn't fit
abbrev pub unfit_hint : Option ℕ → RowFault → List ℕ
unfit_hint column row.OutOfRange = range_hint column
unfit_hint column _ = []

-- what may help where a shape can't be read
abbrev pub shape_hint : Option ℕ → LayerFault → List ℕ
shape_hint column of_text.NotFlat = codes "; hint: ogr2ogr -dim XY leaves heights out"
shape_hint column of_text.Curve = codes "; hint: ogr2ogr -nlt CONVERT_TO_LINEAR makes lines of curves"
shape_hint column of_text.SeveralParts = codes "; hint: ogr2ogr -explodecollections makes features of them, which need keys of their own"
shape_hint column of_text.Finer = codes "; hint: --round rounds to whole millimetres"
shape_hint column (of_text.Unfit why) = unfit_hint column why
shape_hint column _ = []

-- what puts numbers in a column where there are none
abbrev pub coalesce_hint : List ℕ → List ℕ
coalesce_hint name = codes "; hint: COALESCE(" ++ name ++ codes ", 0) puts a number there"

-- what may help where a number is none
abbrev pub number_hint : List ℕ → List ℕ → List ℕ
number_hint name value = if is_empty value then coalesce_hint name else []

-- the name of the header that is a column's but for small and capital letters, if there is one
abbrev pub spelled_name : List (List ℕ) → List ℕ → Option (List ℕ)
spelled_name names name = find (λ other. same_letters other name) names

-- a name of the header has a semicolon, as where these separate its fields
abbrev pub has_semicolon : List (List ℕ) → Bool
has_semicolon names = list_any (contains_byte 59) names

-- what may help where a name of the header is near that of the column
abbrev pub near_hint : Option (List ℕ) → List ℕ
near_hint None = []
near_hint (Some near) = codes "; hint: did you mean " ++ quoted near ++ codes "?"

-- what may help where the header hasn't the name of a column at all
abbrev pub unknown_hint : List (List ℕ) → Option (List ℕ) → List ℕ
unknown_hint names near = if has_semicolon names then codes "; hint: fields are separated by commas" else near_hint near

-- what gives a column of a layer another name
abbrev pub select_hint : List ℕ → List ℕ → List ℕ
select_hint spelled name = codes "; hint: SELECT " ++ spelled ++ codes " AS " ++ name

-- what may help where the header has a column's name in other letters, or not at all
abbrev pub missing_hint : List (List ℕ) → List ℕ → Option (List ℕ) → Option (List ℕ) → List ℕ
missing_hint names name near None = unknown_hint names near
missing_hint names name near (Some spelled) = select_hint spelled name

-- the name of the header that is near that of the column which has a fault
abbrev pub near_in : List (Option (List ℕ)) → Option ℕ → Option (List ℕ)
near_in near None = None
near_in near (Some column) = near_at near column

abbrev pub text_hint : TableDef → List (List ℕ) → List (Option (List ℕ)) → List (List ℕ) → Option ℕ → LayerFault → List ℕ
text_hint table names near fields column of_text.NoColumn =
    missing_hint names (name_in table column) (near_in near column) (spelled_name names (name_in table column))
text_hint table names near fields column of_text.BadNumber = number_hint (name_in table column) (field_under names fields (name_in table column))
text_hint table names near fields column fault = shape_hint column fault

-- what may help against a fault in a column
abbrev pub column_hint : TableDef → List (List ℕ) → List (Option (List ℕ)) → List (List ℕ) → Option ℕ → LayersFault → List ℕ
column_hint table names near fields column (of_layer.Unread fault) = text_hint table names near fields column fault
column_hint table names near fields column _ = []

abbrev pub fault_hint : TableDef → List (List ℕ) → List (Option (List ℕ)) → List (List ℕ) → FoundFault → List ℕ
fault_hint table names near fields found = column_hint table names near fields found.column found.fault

-- the fields of the record of a number, counted from 1
abbrev pub fields_at : List (List (List ℕ)) → ℕ → List (List ℕ)
fields_at records number = unwrap_or (slice_get records (number - 1)) []
