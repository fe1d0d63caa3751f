-- Both parts of a layer.
use Rattle.std.proofs.Common.{◌≡◌, ◌∙◌, ℕ, ◌∷◌, ◌++◌, Bool, true, false, cond, List, [], Option, Some, None, Result, Ok, Err, ap, append_assoc, length, refl, subst, sym}
use Rattle.std.specs.List.{AllByRecursion}
use Rattle.std.specs.Bool.{OnFalse}
use Rattle.std.specs.Str.{is_utf8}
use Rattle.csv.specs.Reading.{default_config, records, strip_bom}
use Rattle.csv.specs.Writing.{default_writer, row_text}
use Rattle.clr_rows.specs.declared.tables.TableDef.{TableDef}
use Rattle.clr_readings.specs.Readings.{Fails}
use Rattle.clr_records.specs.Records.{records_in}
use Rattle.clr_records.specs.Writing.{records_text}
use Rattle.clr_records.proofs.RecordsAgain.{HasField, read_written}
use Rattle.clr_layer_text.specs.Faults.{layer_lacks_memory}
use Rattle.clr_layer_text.specs.Layers.{Fields, can_be_layer, fields_of_table, row_of}
use Rattle.clr_layer_text.specs.declared.faults.LayerFault.{LayerFault}
use Rattle.clr_layer_text.specs.declared.faults.LayerFault.TheVariants.{OutOfMemory, NotCsv, NoColumn, ColumnTwice, FieldCount, BadNumber, NotWkt, NotFlat, Curve}
use Rattle.clr_layer_text.specs.declared.faults.LayerFault.TheVariants.{SeveralParts, NotDecimal, Finer, Unfit}
use Rattle.clr_layer_faults.specs.declared.found.FoundFault.{FoundFault}
use Rattle.clr_layer_faults.specs.FoundFaults.{Record, below_header, faults_below, faults_in, header_in}
use Rattle.clr_skipped_records.specs.declared.splits.SplitLayer.{SplitLayer}
use Rattle.clr_layer_reports.specs.FaultSayings.{fields_at}
use Rattle.clr_layer_reports.specs.Reports.{fault_words}
use Rattle.clr_skipped_records.specs.SkippedRecords.{skipped_record, skipped_text}
use Rattle.clr_skipped_records.specs.SoundRecords.{AddsSound, sound_records}
use Rattle.clr_skipped_records.specs.Splits.{IsMade, IsSoundText, IsSplit, IsSplitBelow, IsSplitUnder, mark}
use Rattle.clr_skipped_records.proofs.SoundLemmas.{all_have_fields, none_headed}

without_mark : (text : List ℕ) → strip_bom (mark ++ text) ≡ text
unfolding strip_bom
without_mark text = refl

-- records that are written behind a byte order mark are read back
read_back : (rows : List Record) (text : List ℕ) → AllByRecursion HasField rows → is_utf8 text ≡ true → text ≡ mark ++ records_text rows
    → records_in text ≡ Some rows
read_back rows text all utf8 is =
    ap (λ b. cond b (Some (records default_config (strip_bom text))) None) utf8
    ∙ ap (λ t. Some (records default_config t)) (ap strip_bom is ∙ without_mark (records_text rows)) ∙ ap Some (read_written rows all)

-- a record with what is wrong with it behind its fields
pub skipped_made : (table : TableDef) (rows : List Record) (found : FoundFault) (fields names made : Record) (why : List ℕ)
    → fields ≡ fields_at rows found.number → names ≡ header_in rows → why ≡ fault_words table names [] fields found → made ≡ fields ++ why ∷ []
    → made ≡ skipped_record table rows found
skipped_made table rows found fields names made why at head said is =
    is ∙ ap (λ (words : List ℕ). fields ++ words ∷ []) said ∙ (λ i. at i ++ fault_words table (head i) [] (at i) found ∷ [])

-- a text that has a byte order mark, a header and records without a fault
pub text_made : (names : Record) (faults : List FoundFault) (rows : List Record) (first headed now text : List ℕ) → first ≡ mark
    → headed ≡ first ++ row_text default_writer names → AddsSound faults rows headed now → text ≡ now → is_utf8 text ≡ true
    → IsSoundText names faults rows text
text_made names faults rows first headed now text marked one (sound, are, added) is utf8 = record {
  sound = sound;
  are = are;
  utf8 = utf8;
  bytes = is ∙ added ∙ ap (λ t. t ++ records_text sound) (one ∙ ap (λ t. t ++ row_text default_writer names) marked)
      ∙ append_assoc mark (row_text default_writer names) (records_text sound);
}

module _ (tables : List TableDef) (at : ℕ) (table : TableDef) (rounded : Bool) (rows : List Record) (split : SplitLayer) where
  made_under : (headings : Fields) → fields_of_table (header_in rows) (Some table) ≡ Ok headings → IsMade tables at table rounded rows split
      → IsSplit tables at table rounded rows headings split
  made_under headings headed made =
      let names = header_in rows in
      let text = made.taken in
      let all = ap (faults_below tables at table rounded names (below_header rows)) headed in
      let sound = text.are (row_of tables at rounded headings) table names all in
      let bytes = text.bytes ∙ ap (λ rs. mark ++ records_text (names ∷ rs)) sound in
      record {
        taken = read_back (sound_records tables at table rounded headings rows) split.taken.items
            (all_have_fields tables at table rounded names headings headed (below_header rows)) text.utf8 bytes;
        skipped = made.skipped;
        count = made.count;
      }

  -- a layer that was split
  pub is_split : (header : Record) (headings : Fields) → header ≡ header_in rows → fields_of_table header (Some table) ≡ Ok headings
      → IsMade tables at table rounded rows split → IsSplitBelow tables at table rounded rows (Some split)
  is_split header headings head read made =
      let headed : fields_of_table (header_in rows) (Some table) ≡ Ok headings = sym (ap (λ (names : Record). fields_of_table names (Some table)) head) ∙ read in
      subst (λ (r : Result Fields LayerFault). IsSplitUnder tables at table rounded rows (Some split) r) (sym headed) (made_under headings headed made)

-- both parts, by the records and the faults of which they were made
pub both_made : (tables : List TableDef) (at : ℕ) (table : TableDef) (rounded : Bool) (rows : List Record) (header : Record) (below : List Record)
    (faults : List FoundFault) (split : SplitLayer) → header ≡ header_in rows → below ≡ below_header rows → faults ≡ faults_in tables at table rounded rows
    → IsSoundText header faults below split.taken.items → split.skipped.items ≡ skipped_text table rows faults → split.count ≡ length faults
    → IsMade tables at table rounded rows split
both_made tables at table rounded rows header below faults split head under found taken skipped count =
    let text = split.taken.items in
    record {
      taken = subst (λ (names : Record). IsSoundText names (faults_in tables at table rounded rows) (below_header rows) text) head
          (subst (λ (rs : List Record). IsSoundText header (faults_in tables at table rounded rows) rs text) under
          (subst (λ (fs : List FoundFault). IsSoundText header fs below text) found taken));
      skipped = skipped ∙ ap (skipped_text table rows) found;
      count = count ∙ ap (λ (fs : List FoundFault). length fs) found;
    }

-- a fault that doesn't say that memory ran out
pub lacks_none : (e : LayerFault) → (e ≡ OutOfMemory → ⊥) → layer_lacks_memory e ≡ false
lacks_none OutOfMemory other = absurd (other refl)
lacks_none NotCsv other = refl
lacks_none NoColumn other = refl
lacks_none ColumnTwice other = refl
lacks_none FieldCount other = refl
lacks_none BadNumber other = refl
lacks_none NotWkt other = refl
lacks_none NotFlat other = refl
lacks_none Curve other = refl
lacks_none SeveralParts other = refl
lacks_none NotDecimal other = refl
lacks_none Finer other = refl
lacks_none (Unfit fault) other = refl

-- a layer that wasn't split
pub is_not_split : (tables : List TableDef) (at : ℕ) (table : TableDef) (rounded : Bool) (rows : List Record) (header : Record) (e : LayerFault)
    (split : Option SplitLayer) → header ≡ header_in rows → Fails layer_lacks_memory e (fields_of_table header (Some table)) → split ≡ None
    → layer_lacks_memory e ≡ false → IsSplitBelow tables at table rounded rows split
is_not_split tables at table rounded rows header e split head failed is other =
    let read : fields_of_table header (Some table) ≡ Err e =
    subst (λ (b : Bool). OnFalse b (fields_of_table header (Some table) ≡ Err e)) other failed in
    let none : fields_of_table (header_in rows) (Some table) ≡ Err e = sym (ap (λ (names : Record). fields_of_table names (Some table)) head) ∙ read in
    subst (λ (s : Option SplitLayer). IsSplitBelow tables at table rounded rows s) (sym is)
    (subst (λ (r : Result Fields LayerFault). IsSplitUnder tables at table rounded rows None r) (sym none) refl)

-- no records are split
pub none_split : (tables : List TableDef) (at : ℕ) (table : TableDef) (rounded : Bool) → IsSplitBelow tables at table rounded [] None
none_split tables at table rounded = by (fields_of_table [] (Some table)) refl
  where
    by : (read : Result Fields LayerFault) → fields_of_table [] (Some table) ≡ read → IsSplitUnder tables at table rounded [] None read
    by (Ok headings) is = none_headed table headings (can_be_layer table) is
    by (Err e) is = refl
