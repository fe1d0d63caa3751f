-- All faults of the text of a layer: those of its header, or else the first of each record.
use Rattle.std.specs.Prelude.{ℕ, ◌+◌, ◌==◌, ℤ, Bool, List, [], ◌∷◌, ◌++◌, count_by, length}
use Rattle.std.specs.Prelude.{Option, Some, None, Result, Ok, Err, option_map, option_to_list, if◌then◌else◌}
use Rattle.std.specs.List.{filter_map, list_any, range_with_len}
use Rattle.std.specs.Ordering.{int_cmp, is_eq}
use Rattle.std.specs.Str.{bytes_eq}
use Rattle.clr_rows.specs.declared.tables.TableDef.{TableDef}
use Rattle.clr_layer_text.specs.declared.faults.LayerFault.{LayerFault}
use Rattle.clr_layer_text.specs.declared.faults.LayerFault.TheVariants.{ColumnTwice, NoColumn}
use Rattle.clr_layer_text.specs.declared.rows.LayerRow.{LayerRow}
use Rattle.clr_layer_text.specs.Layers.{Fields, fields_of_table, row_of}
use Rattle.clr_layer_changes.specs.declared.faults.LayersFault.{LayersFault}
use Rattle.clr_layer_changes.specs.declared.faults.LayersFault.TheVariants.{KeyTwice, Unread}
use Rattle.clr_layer_faults.specs.declared.found.FoundFault.{FoundFault}
use Rattle.clr_layer_faults.specs.Columns.{column_count, column_name, faulty_column}

-- the fields of a record; those of a header are names
abbrev pub Record : Type 0
Record = List (List ℕ)

-- a fault at a record, in a column if it is one of a single column
abbrev pub found_at : ℕ → Option ℕ → LayersFault → FoundFault
found_at number column fault = record { number = number; column = column; fault = fault }

-- the header --------------------------------------------------------------------------------------------

-- how often a name stands in a header
abbrev pub name_count : List (List ℕ) → List ℕ → ℕ
name_count names name = count_by (λ other. bytes_eq other name) names

-- a name must stand there once
abbrev pub count_fault : ℕ → Option LayerFault
count_fault count = if count == 0 then Some NoColumn else (if count == 1 then None else Some ColumnTwice)

abbrev pub header_fault : TableDef → List (List ℕ) → ℕ → Option FoundFault
header_fault table names column =
    option_map (λ fault. found_at 1 (Some column) (Unread fault)) (count_fault (name_count names (column_name table column)))

-- the columns that a header lacks or has twice, in their order
abbrev pub header_faults : TableDef → List (List ℕ) → List FoundFault
header_faults table names = filter_map (header_fault table names) (range_with_len 0 (column_count table))

-- these faults, or where there are none, one of the header as a whole
abbrev pub or_whole : LayerFault → List FoundFault → List FoundFault
or_whole fault faults = if length faults == 0 then found_at 1 None (Unread fault) ∷ [] else faults

-- records -----------------------------------------------------------------------------------------------

-- what is read of a record: its row, or its fault
abbrev pub RowOrFault : Type 0
RowOrFault = Result LayerRow LayerFault

-- the key that a row has of its own
abbrev pub own_keys : RowOrFault → List ℤ
own_keys (Ok r) = option_to_list r.key
own_keys (Err fault) = []

-- a key is one of some
abbrev pub has_key : List ℤ → ℤ → Bool
has_key keys key = list_any (λ other. is_eq (int_cmp other key)) keys

-- the row of a numbered record has the key of a row before it
abbrev pub key_fault : List ℤ → ℕ → Option ℤ → Option FoundFault
key_fault keys number None = None
key_fault keys number (Some key) = if has_key keys key then Some (found_at number (Some 0) KeyTwice) else None

-- the fault of a numbered record below a header, where the rows before it have these keys
abbrev pub record_fault : TableDef → Record → List ℤ → ℕ → Record → RowOrFault → Option FoundFault
record_fault table names keys number fields (Ok r) = key_fault keys number r.key
record_fault table names keys number fields (Err fault) = Some (found_at number (faulty_column table names fields fault) (Unread fault))

-- the faults of records that are numbered from n on, each read by itself
unfoldable pub faults_from : (Record → RowOrFault) → TableDef → Record → List ℤ → ℕ → List Record → List FoundFault
faults_from read table names keys n [] = []
faults_from read table names keys n (fields ∷ records) =
    option_to_list (record_fault table names keys n fields (read fields))
    ++ faults_from read table names (keys ++ own_keys (read fields)) (n + 1) records

-- the text ----------------------------------------------------------------------------------------------

abbrev pub faults_below : List TableDef → ℕ → TableDef → Bool → Record → List Record → Result Fields LayerFault → List FoundFault
faults_below tables at table rounded names records (Ok headings) = faults_from (row_of tables at rounded headings) table names [] 2 records
faults_below tables at table rounded names records (Err fault) = or_whole fault (header_faults table names)

-- the faults of a header and of the records below it, in the order of records
abbrev pub faults_under : List TableDef → ℕ → TableDef → Bool → Record → List Record → List FoundFault
faults_under tables at table rounded names records = faults_below tables at table rounded names records (fields_of_table names (Some table))

-- the first of some records, or one without fields
abbrev pub header_in : List Record → Record
header_in [] = []
header_in (names ∷ records) = names

abbrev pub below_header : List Record → List Record
below_header [] = []
below_header (names ∷ records) = records

-- the faults of all records of a text
abbrev pub faults_in : List TableDef → ℕ → TableDef → Bool → List Record → List FoundFault
faults_in tables at table rounded records = faults_under tables at table rounded (header_in records) (below_header records)
