-- A pass over a stream as a pass over the table that is asked for.
use Rattle.std.proofs.Common.{◌≡◌, ℕ, Bool, List, [], Option, Some, Result, Ok, Err, IfOk, inl, inr, refl, subst}
use Rattle.std.specs.Prelude.{IfErr, slice_get}
use Rattle.std.specs.Io.KnownBytes.{Appends}
use Rattle.clr_rows.specs.declared.tables.TableDef.{TableDef}
use Rattle.clr_rows.specs.Contents.{Content}
use Rattle.clr_clearance.specs.MergeSets.{setting_by_position}
use Rattle.clr_deltas.specs.Differences.{Differences}
use Rattle.clr_finders.specs.declared.finders.RowFinder.{Ghosts}
use Rattle.clr_needs.specs.Settings.{Setting}
use Rattle.clr_reach.specs.declared.aims.Aim.{Aim}
use Rattle.clr_cut_rows.specs.Searches.{aim_of, setting_in}
use Rattle.clr_layer_changes.specs.declared.faults.LayersFault.{LayersFault}
use Rattle.clr_layer_changes.specs.declared.faults.LayersFault.TheVariants as of_layer
use Rattle.clr_layer_text.specs.declared.rows.LayerRow.{LayerRow}
use Rattle.clr_layer_text.specs.Layers.{header_line}
use Rattle.clr_layer_streams.specs.declared.faults.StreamFault.{StreamFault}
use Rattle.clr_layer_streams.specs.declared.faults.StreamFault.TheVariants as of_stream
use Rattle.clr_layer_streams.specs.declared.sources.LayerSource.{LayerSource}
use Rattle.clr_layer_streams.specs.declared.streams.LayerStream.{LayerStream}
use Rattle.clr_layer_streams.specs.Streams.{AreAllRows, HasRead, IsHeaderFault, LayerForm, form_of}
use Rattle.clr_streams.proofs.Appending.{two_puts}
use Rattle.clr_cut_streams.specs.declared.faults.PassFault.{PassFault}
use Rattle.clr_cut_streams.specs.declared.faults.PassFault.TheVariants as of_pass
use Rattle.clr_cut_streams.specs.declared.told.CutText.{CutText}
use Rattle.clr_cut_streams.specs.declared.told.Told.{Told}
use Rattle.clr_cut_streams.specs.Faults.{pass_fault}
use Rattle.clr_cut_streams.specs.Passes.{IsFaultBehind, IsPassFault, IsWholePass, Tells}
use Rattle.clr_cut_streams.specs.Sinks.{IsSilent, Sinks}
use Rattle.clr_cut_streams.specs.Told.{HasTold}
use Rattle.clr_desk_cuts.specs.Members.{live_set}
use Rattle.clr_desk_cuts.specs.Reach.{AreBytes, Asked, HasPassed, IsPassEnd, TellsOfTable, form_with}

-- the same is told in the same setting
same_told : (aim aim2 : Aim) (c c2 : Setting ℕ) (listed listed2 : Differences) (tables tables2 : List TableDef) (table table2 : ℕ) (rows : List LayerRow)
    (text notes : List ℕ) (told : Told) → aim ≡ aim2 → c ≡ c2 → listed ≡ listed2 → tables ≡ tables2 → table ≡ table2
    → HasTold aim c listed tables table rows text notes told → HasTold aim2 c2 listed2 tables2 table2 rows text notes told
same_told aim aim2 c c2 listed listed2 tables tables2 table table2 rows text notes told e1 e2 e3 e4 e5 h =
    subst (λ (a : Aim). HasTold a c2 listed2 tables2 table2 rows text notes told) e1
    (subst (λ (d : Setting ℕ). HasTold aim d listed2 tables2 table2 rows text notes told) e2
    (subst (λ (l : Differences). HasTold aim c l tables2 table2 rows text notes told) e3
    (subst (λ (ts : List TableDef). HasTold aim c listed ts table2 rows text notes told) e4
    (subst (λ (t : ℕ). HasTold aim c listed tables t rows text notes told) e5 h))))

-- a fault behind rows of a text is one behind rows of a text that is known better
same_fault : (Is Knows : List ℕ → Type 0) (form : LayerForm) (c : Setting ℕ) (rows : List LayerRow) (fault : LayersFault)
    → ((bytes : List ℕ) → Knows bytes → Is bytes) → IsFaultBehind Is form c rows fault → IsFaultBehind Knows form c rows fault
same_fault Is Knows form c rows (of_layer.Unread f) is h = (h.0, λ bytes k. h.1 bytes (is bytes k), h.2)
same_fault Is Knows form c rows of_layer.NoKey is h = (h.0, λ bytes k. h.1 bytes (is bytes k), h.2)
same_fault Is Knows form c rows of_layer.KeyTwice is h = (h.0, λ bytes k. h.1 bytes (is bytes k), h.2)
same_fault Is Knows form c rows of_layer.NoTable is h = absurd h
same_fault Is Knows form c rows of_layer.TableTwice is h = absurd h

-- the form of a stream of the table that is asked for
form_is : (form : LayerForm) (asked : Asked) → form.tables ≡ asked.office.schema → form.table ≡ asked.table → form.rounded ≡ asked.options.rounded
    → form ≡ form_with asked form.at
form_is form asked tables table rounded = λ i. record { tables = tables i; table = table i; rounded = rounded i; at = form.at }

-- the cut of what is asked, as it stands beside a stream
pub record IsCutAsked {V F : Type 0} {finder : Ghosts F} (content : V → Content) (asked : Asked) (cut : CutText V F finder) : Type 0 where
  pub aim : aim_of cut.rows.now ≡ asked.options.aim
  pub setting : setting_in content cut.rows.now ≡ setting_by_position asked.office (live_set asked.members)
  pub listed : cut.listed.now ≡ asked.listed
  pub tables : cut.schema.now ≡ asked.office.schema

-- a stream of the table that is asked for, of which the header was read
pub record IsStreamAsked {R : Type 0} (remaining : R → Option (List ℕ)) (known : Option (List ℕ)) (asked : Asked) (source : LayerSource R)
    (stream : LayerStream) : Type 0 where
  pub tables : (form_of stream).tables ≡ asked.office.schema
  pub table : (form_of stream).table ≡ asked.table
  pub rounded : (form_of stream).rounded ≡ asked.options.rounded
  pub begun : (bytes : List ℕ) → known ≡ Some bytes → HasRead remaining bytes [] source stream

module _ {R V F : Type 0} {finder : Ghosts F} (remaining : R → Option (List ℕ)) (known : Option (List ℕ)) (content : V → Content) (asked : Asked)
    (cut : CutText V F finder) (source : LayerSource R) (stream : LayerStream) (def : TableDef)
    (text_held between text_holds notes_held notes_hold : Option (List ℕ)) (text_failed notes_failed : Bool) where
  abbrev behind : Sinks
  behind = record {
    text_held = between;
    text_holds = text_holds;
    text_failed = text_failed;
    notes_held = notes_held;
    notes_hold = notes_hold;
    notes_failed = notes_failed;
  }

  abbrev all : Sinks
  all = record behind { text_held = text_held }

  tells : (rows : List LayerRow) (told : Told) → IsCutAsked content asked cut → IsStreamAsked remaining known asked source stream
      → slice_get asked.office.schema asked.table ≡ Some def
      → Appends text_held between (header_line def)
      → Tells content cut (form_of stream).table behind rows told
      → TellsOfTable asked rows told all
  tells rows told is_cut is_stream stands put h = record {
    def = def;
    stands = stands;
    text = h.text;
    notes = h.notes;
    has_told = same_told _ _ _ _ _ _ _ _ _ _ rows h.text h.notes told is_cut.aim is_cut.setting is_cut.listed is_cut.tables is_stream.table h.has_told;
    out = record {
      text_out = two_puts text_held between text_holds (header_line def) h.text put h.out.text_out;
      notes_out = h.out.notes_out;
      text_sink = h.out.text_sink;
      notes_sink = h.out.notes_sink;
    };
  }

  pub passed : (told : Told) → IsCutAsked content asked cut → IsStreamAsked remaining known asked source stream
      → slice_get asked.office.schema asked.table ≡ Some def
      → Appends text_held between (header_line def)
      → IsWholePass remaining content source stream cut behind told
      → HasPassed asked known all told
  passed told is_cut is_stream stands put h = (
    h.0,
    λ bytes k.
        subst (λ (form : LayerForm). AreAllRows form bytes h.0) (form_is (form_of stream) asked is_stream.tables is_stream.table is_stream.rounded)
        (h.1 bytes (is_stream.begun bytes k)),
    tells h.0 told is_cut is_stream stands put h.2,
  )

  pub ended : (failed : Bool) (e : PassFault) → IsCutAsked content asked cut
      → IsStreamAsked remaining known asked source stream
      → slice_get asked.office.schema asked.table ≡ Some def
      → Appends text_held between (header_line def)
      → IsPassFault remaining content source stream cut behind failed e
      → IsPassEnd asked known all failed e
  ended failed of_pass.OutOfMemory is_cut is_stream stands put h = tt
  ended failed of_pass.Unreadable is_cut is_stream stands put h = h
  ended failed of_pass.WriteFailed is_cut is_stream stands put h = h
  ended failed (of_pass.Record number fault) is_cut is_stream stands put h = inr (record {
    at = (form_of stream).at;
    rows = h.0;
    told = h.1;
    tells = tells h.0 h.1 is_cut is_stream stands put h.2;
    behind = h.3;
    why = subst (λ (c : Setting ℕ). IsFaultBehind (AreBytes known) (form_with asked (form_of stream).at) c h.0 fault) is_cut.setting
        (subst (λ (form : LayerForm). IsFaultBehind (AreBytes known) form (setting_in content cut.rows.now) h.0 fault)
        (form_is (form_of stream) asked is_stream.tables is_stream.table is_stream.rounded)
        (same_fault (λ bytes. HasRead remaining bytes [] source stream) (AreBytes known) (form_of stream) (setting_in content cut.rows.now) h.0 fault
        is_stream.begun h.4));
  })

  pub passed_if : (r : Result Told PassFault) → IfOk r (IsWholePass remaining content source stream cut behind) → IsCutAsked content asked cut
      → IsStreamAsked remaining known asked source stream
      → slice_get asked.office.schema asked.table ≡ Some def
      → Appends text_held between (header_line def)
      → IfOk r (HasPassed asked known all)
  passed_if (Ok told) h is_cut is_stream stands put = passed told is_cut is_stream stands put h
  passed_if (Err e) h is_cut is_stream stands put = tt

  pub ended_if : (failed : Bool) (r : Result Told PassFault) → IfErr r (IsPassFault remaining content source stream cut behind failed)
      → IsCutAsked content asked cut
      → IsStreamAsked remaining known asked source stream
      → slice_get asked.office.schema asked.table ≡ Some def
      → Appends text_held between (header_line def)
      → IfErr r (IsPassEnd asked known all failed)
  ended_if failed (Ok told) h is_cut is_stream stands put = tt
  ended_if failed (Err e) h is_cut is_stream stands put = ended failed e is_cut is_stream stands put h

-- the header can't be read
pub no_header : (asked : Asked) (known : Option (List ℕ)) (sinks : Sinks) (failed : Bool) (e : StreamFault)
    → IsSilent sinks
    → IsHeaderFault asked.office.schema asked.table known failed e
    → IsPassEnd asked known sinks failed (pass_fault e)
no_header asked known sinks failed of_stream.OutOfMemory silent h = tt
no_header asked known sinks failed of_stream.Unreadable silent h = h
no_header asked known sinks failed (of_stream.Record number fault) silent h = inl (record { why = fault; is = refl; header = h; silent = silent })
