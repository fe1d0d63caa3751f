-- A layer, split into the records that have no fault and those that have one.
use Rattle.std.specs.Prelude.{◌≡◌, ℕ, ◌∷◌, ◌++◌, Bool, true, List, [], length, Option, Some, None, Result, Ok, Err, slice_get}
use Rattle.std.specs.Str.{is_utf8}
use Rattle.clr_rows.specs.declared.tables.TableDef.{TableDef}
use Rattle.clr_rows.specs.Schemas.{table_named}
use Rattle.clr_records.specs.Records.{records_in}
use Rattle.clr_records.specs.Writing.{records_text}
use Rattle.clr_layer_text.specs.Layers.{Fields, fields_of_table}
use Rattle.clr_layer_text.specs.declared.faults.LayerFault.{LayerFault}
use Rattle.clr_layer_changes.specs.declared.options.GivenLayer.{GivenLayer}
use Rattle.clr_layer_faults.specs.declared.found.FoundFault.{FoundFault}
use Rattle.clr_layer_faults.specs.FoundFaults.{Record, below_header, faults_in, header_in}
use Rattle.clr_skipped_records.specs.declared.splits.SplitLayer.{SplitLayer}
use Rattle.clr_skipped_records.specs.SkippedRecords.{skipped_text}
use Rattle.clr_skipped_records.specs.SoundRecords.{AreSound, sound_records}

-- a byte order mark, which is no part of the first record of a text
abbrev pub mark : List ℕ
mark = 239 ∷ 187 ∷ 191 ∷ []

-- a text of a header and of those records below it that have none of these faults
pub record IsSoundText (names : Record) (faults : List FoundFault) (records : List Record) (text : List ℕ) : Type 0 where
  pub sound : List Record
  pub are : AreSound faults records sound
  pub utf8 : is_utf8 text ≡ true
  pub bytes : text ≡ mark ++ records_text (names ∷ sound)

-- both parts of a layer of a table that has these records
pub record IsMade (tables : List TableDef) (at : ℕ) (table : TableDef) (rounded : Bool) (records : List Record) (split : SplitLayer) : Type 0 where
  pub taken : IsSoundText (header_in records) (faults_in tables at table rounded records) (below_header records) split.taken.items
  pub skipped : split.skipped.items ≡ skipped_text table records (faults_in tables at table rounded records)
  pub count : split.count ≡ length (faults_in tables at table rounded records)

-- one part is a layer of just those records that have no fault, and the other one has just the others, each with what is wrong with it
pub record IsSplit (tables : List TableDef) (at : ℕ) (table : TableDef) (rounded : Bool) (records : List Record) (headings : Fields)
    (split : SplitLayer) : Type 0 where
  pub taken : records_in split.taken.items ≡ Some (sound_records tables at table rounded headings records)
  pub skipped : split.skipped.items ≡ skipped_text table records (faults_in tables at table rounded records)
  pub count : split.count ≡ length (faults_in tables at table rounded records)

-- records are split below a header that has the columns of the table, and below no other
abbrev pub IsSplitUnder : List TableDef → ℕ → TableDef → Bool → List Record → Option SplitLayer → Result Fields LayerFault → Type 0
IsSplitUnder tables at table rounded records None (Ok headings) = ⊥
IsSplitUnder tables at table rounded records (Some split) (Ok headings) = IsSplit tables at table rounded records headings split
IsSplitUnder tables at table rounded records split (Err e) = split ≡ None

abbrev pub IsSplitBelow : List TableDef → ℕ → TableDef → Bool → List Record → Option SplitLayer → Type 0
IsSplitBelow tables at table rounded records split =
    IsSplitUnder tables at table rounded records split (fields_of_table (header_in records) (Some table))

-- a text is split if it is UTF-8
abbrev pub IsSplitText : List TableDef → ℕ → TableDef → Bool → Option SplitLayer → Option (List Record) → Type 0
IsSplitText tables at table rounded split None = split ≡ None
IsSplitText tables at table rounded split (Some records) = IsSplitBelow tables at table rounded records split

-- the layer of a table that is there is split, and no other
abbrev pub IsSplitAt : List TableDef → ℕ → Bool → List ℕ → Option SplitLayer → Option TableDef → Type 0
IsSplitAt tables at rounded text split None = split ≡ None
IsSplitAt tables at rounded text split (Some table) = IsSplitText tables at table rounded split (records_in text)

abbrev pub IsSplitNamed : List TableDef → Bool → List ℕ → Option SplitLayer → Option ℕ → Type 0
IsSplitNamed tables rounded text split None = split ≡ None
IsSplitNamed tables rounded text split (Some at) = IsSplitAt tables at rounded text split (slice_get tables at)

-- what becomes of a layer
abbrev pub IsSplitLayer : List TableDef → Bool → GivenLayer → Option SplitLayer → Type 0
IsSplitLayer tables rounded layer split = IsSplitNamed tables rounded layer.text.items split (table_named tables layer.table)
