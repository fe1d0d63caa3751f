-- The records of a layer that have no fault.
use Rattle.std.specs.Prelude.{◌≡◌, ℕ, ◌+◌, ◌==◌, ℤ, Bool, true, false, List, [], ◌∷◌, ◌++◌, Option, Some, None, Ok, is_some, slice_get}
use Rattle.clr_rows.specs.declared.tables.TableDef.{TableDef}
use Rattle.clr_rows.specs.Contents.{Content}
use Rattle.clr_records.specs.Records.{records_in}
use Rattle.clr_records.specs.Writing.{records_text}
use Rattle.clr_layer_text.specs.Layers.{Fields, fields_of_table, row_of}
use Rattle.clr_layer_changes.specs.LayerRows.{layer_rows}
use Rattle.clr_layer_changes.specs.declared.options.LayerOptions.{LayerOptions}
use Rattle.clr_layer_faults.specs.declared.found.FoundFault.{FoundFault}
use Rattle.clr_layer_faults.specs.FoundFaults.{Record, RowOrFault, below_header, faults_from, faults_in, header_in, own_keys, record_fault}
use Rattle.clr_layer_faults.specs.Refusals.{is_readable}

-- a record, unless it has a fault
abbrev pub unless : (has_fault : Bool) → Record → List Record
unless true fields = []
unless false fields = fields ∷ []

-- of records that are numbered from n on, each read by itself, those that have no fault, where the rows before them have these keys
unfoldable pub sound_from : (Record → RowOrFault) → TableDef → Record → List ℤ → ℕ → List Record → List Record
sound_from read table names keys n [] = []
sound_from read table names keys n (fields ∷ records) =
    unless (is_some (record_fault table names keys n fields (read fields))) fields
    ++ sound_from read table names (keys ++ own_keys (read fields)) (n + 1) records

-- the header of records, which has columns there, and those below it that have no fault
abbrev pub sound_records : List TableDef → ℕ → TableDef → Bool → Fields → List Record → List Record
sound_records tables at table rounded headings records =
    header_in records ∷ sound_from (row_of tables at rounded headings) table (header_in records) [] 2 (below_header records)

-- walking over faults and records -------------------------------------------------------------------

-- a fault is that of the record of a number
abbrev pub is_of : Option FoundFault → ℕ → Bool
is_of None number = false
is_of (Some found) number = found.number == number

-- records are those of some that have no fault, if these are all their faults
abbrev pub AreSound : List FoundFault → List Record → List Record → Type 0
AreSound faults records sound =
    (read : Record → RowOrFault) (table : TableDef) (names : Record) → faults ≡ faults_from read table names [] 2 records
    → sound ≡ sound_from read table names [] 2 records

-- a text has the lines of those records behind another one
abbrev pub AddsSound : List FoundFault → List Record → List ℕ → List ℕ → Type 0
AddsSound faults records old new = (sound : List Record) × AreSound faults records sound × (new ≡ old ++ records_text sound)

-- laws ------------------------------------------------------------------------------------------------

-- records that have no fault have none by themselves either
abbrev pub SoundRecordsLaw : Type 0
SoundRecordsLaw =
    (tables : List TableDef) (at : ℕ) (table : TableDef) (rounded : Bool) (headings : Fields) (records : List Record)
    → fields_of_table (header_in records) (Some table) ≡ Ok headings
    → faults_in tables at table rounded (sound_records tables at table rounded headings records) ≡ []

-- so a text of them alone is read as rows, unless no key is left for one that has none
abbrev pub SoundTextsLaw : Type 0
SoundTextsLaw =
    (tables : List TableDef) (live : Content) (options : LayerOptions) (at : ℕ) (table : TableDef) (headings : Fields) (records : List Record) (text : List ℕ)
    → slice_get tables at ≡ Some table → fields_of_table (header_in records) (Some table) ≡ Ok headings
    → records_in text ≡ Some (sound_records tables at table options.rounded headings records)
    → is_readable (layer_rows tables live options at text) ≡ true
