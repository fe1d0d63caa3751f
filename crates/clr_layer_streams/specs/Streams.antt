-- Layers that are read one record at a time: what was read of one so far, and what the next record gives.
use Rattle.std.specs.Prelude.{◌≡◌, ◌⊎◌, ◌+◌, ◌-◌, ◌^◌, ℕ, min, Bool, true, List, [], ◌∷◌, ◌++◌, length, ⊤, Option, Some, None, Ok, Err, slice_get}
use Rattle.csv.specs.Machine.{Read, next_record}
use Rattle.csv.specs.Reading.{Reached, TookRecord, default_config, reader_state, records, source_of, strip_bom}
use Rattle.csv.specs.Records.{AllText}
use Rattle.csv.specs.declared.parser.State.{State}
use Rattle.csv.specs.declared.parser.State.TheVariants as st
use Rattle.clr_rows.specs.declared.tables.TableDef.{TableDef}
use Rattle.clr_layer_text.specs.declared.faults.LayerFault.{LayerFault}
use Rattle.clr_layer_text.specs.declared.faults.LayerFault.TheVariants.{NoColumn, NotCsv}
use Rattle.clr_layer_text.specs.declared.rows.LayerRow.{LayerRow}
use Rattle.clr_layer_text.specs.Headings.{seen_headings}
use Rattle.clr_layer_text.specs.Layers.{Fields, fields_of_table, layer_rows_of, row_of, rows_from}
use Rattle.clr_layer_streams.specs.declared.faults.StreamFault.{StreamFault}
use Rattle.clr_layer_streams.specs.declared.faults.StreamFault.TheVariants.{OutOfMemory, Unreadable, Record}
use Rattle.clr_layer_streams.specs.declared.sources.LayerSource.{LayerSource}
use Rattle.clr_layer_streams.specs.declared.streams.LayerStream.{LayerStream}
use Rattle.clr_layer_streams.specs.Sources.{below, is_failed}

-- no number of a record is above this
abbrev pub greatest : ℕ
greatest = 2 ^ 64 - 1

abbrev pub number_behind : ℕ → ℕ
number_behind n = min (n + 1) greatest

-- the number of the record behind a header and these rows
abbrev pub record_behind : List LayerRow → ℕ
record_behind rows = min (length rows + 2) greatest

-- the table, how its rows are read, and where their fields stand
pub record LayerForm : Type 0 where
  pub tables : List TableDef
  pub table : ℕ
  pub rounded : Bool
  pub at : Fields

abbrev pub form_of : LayerStream → LayerForm
form_of stream = record { tables = stream.schema.now; table = stream.table; rounded = stream.rounded; at = seen_headings stream.headings }

-- of the records of a text so many were read from a source, the first of which is the header, and these are the rows of the others
pub record HasRead {R : Type 0} (remaining : R → Option (List ℕ)) (bytes : List ℕ) (rows : List LayerRow) (source : LayerSource R) (stream : LayerStream)
    : Type 0 where
  pub names : List (List ℕ)
  pub others : List (List (List ℕ))
  pub left : List ℕ
  pub reached : Reached default_config st.StartRecord (strip_bom bytes) (names ∷ others) (reader_state source.reader) left
  pub unread : source_of (below remaining) source.reader ≡ Some left
  pub headings : fields_of_table names (slice_get stream.schema.now stream.table) ≡ Ok (seen_headings stream.headings)
  pub read : rows_from stream.schema.now stream.table stream.rounded (seen_headings stream.headings) 2 others ≡ Ok rows
  pub number : stream.number ≡ min (length rows + 1) greatest

-- a text begins with these records
abbrev pub BeginsWith : List ℕ → List (List (List ℕ)) → Type 0
BeginsWith bytes list = (s : State) × (left : List ℕ) × Reached default_config st.StartRecord (strip_bom bytes) list s left

-- a text begins with a header, the records of these rows, and those others behind them
pub record AreFirstRows (form : LayerForm) (bytes : List ℕ) (rows : List LayerRow) (behind : List (List (List ℕ))) : Type 0 where
  pub names : List (List ℕ)
  pub others : List (List (List ℕ))
  pub begins : BeginsWith bytes (names ∷ (others ++ behind))
  pub headings : fields_of_table names (slice_get form.tables form.table) ≡ Ok form.at
  pub read : rows_from form.tables form.table form.rounded form.at 2 others ≡ Ok rows

-- these are the rows of all records of a text
abbrev pub AreAllRows : LayerForm → List ℕ → List LayerRow → Type 0
AreAllRows form bytes rows = layer_rows_of form.tables form.table form.rounded (records default_config (strip_bom bytes)) ≡ Ok rows

-- the next row is read behind others, or there is none, and these are all rows
abbrev pub GoesOn : {R : Type 0} → (R → Option (List ℕ)) → List ℕ → List LayerRow → Option LayerRow → LayerSource R → LayerStream → Type 0
GoesOn remaining bytes rows None source stream = AreAllRows (form_of stream) bytes rows
GoesOn remaining bytes rows (Some r) source stream = HasRead remaining bytes (rows ++ r ∷ []) source stream

-- the fault of a record's fields: they aren't UTF-8, or they are no row
abbrev pub IsFaultOfFields : LayerForm → List (List ℕ) → LayerFault → Type 0
IsFaultOfFields form fields fault = (¬ (AllText fields) × (fault ≡ NotCsv)) ⊎ (row_of form.tables form.table form.rounded form.at fields ≡ Err fault)

-- why the row of the next record, which has a number, can't be read: a read has failed, or the record that was read next has the fault
abbrev pub IsFaultOfNext : {R : Type 0} → (R → Option (List ℕ)) → LayerSource R → LayerSource R → LayerForm → ℕ → StreamFault → Type 0
IsFaultOfNext remaining old new form number OutOfMemory = ⊤
IsFaultOfNext remaining old new form number Unreadable = is_failed new ≡ true
IsFaultOfNext remaining old new form number (Record m fault) = (m ≡ number)
    × ((fields : List (List ℕ)) × TookRecord (below remaining) old.reader new.reader fields × IsFaultOfFields form fields fault)

-- the fault of a first record, if there is one: it isn't UTF-8, or no header of the table; where there is none, a header is lacking
abbrev pub IsFaultOfFirst : List TableDef → ℕ → Option Read → LayerFault → Type 0
IsFaultOfFirst tables table None fault = fault ≡ NoColumn
IsFaultOfFirst tables table (Some p) fault = (¬ (AllText p.0) × (fault ≡ NotCsv)) ⊎ (fields_of_table p.0 (slice_get tables table) ≡ Err fault)

-- why there is no header of a table's layer: a read has failed, or, where the source tells its bytes, it is the fault of the first record
abbrev pub IsHeaderFault : List TableDef → ℕ → Option (List ℕ) → Bool → StreamFault → Type 0
IsHeaderFault tables table known failed OutOfMemory = ⊤
IsHeaderFault tables table known failed Unreadable = failed ≡ true
IsHeaderFault tables table known failed (Record number fault) = (number ≡ 1)
    × ((bytes : List ℕ) → known ≡ Some bytes
    → IsFaultOfFirst tables table (next_record default_config st.StartRecord [] [] (strip_bom bytes)) fault)
