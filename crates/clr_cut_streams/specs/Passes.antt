-- A pass over a layer that is read one record at a time.
use Rattle.std.specs.Prelude.{◌≡◌, ℕ, Bool, true, List, [], ◌∷◌, ◌++◌, ⊤, Contains, Option, None}
use Rattle.clr_rows.specs.Contents.{Content}
use Rattle.clr_finders.specs.declared.finders.RowFinder.{Ghosts}
use Rattle.clr_needs.specs.Settings.{Setting}
use Rattle.clr_cut_rows.specs.Searches.{aim_of, setting_in}
use Rattle.clr_layer_changes.specs.declared.faults.LayersFault.{LayersFault}
use Rattle.clr_layer_changes.specs.declared.faults.LayersFault.TheVariants.{KeyTwice, NoKey, NoTable, TableTwice, Unread}
use Rattle.clr_layer_text.specs.declared.rows.LayerRow.{LayerRow}
use Rattle.clr_layer_text.specs.Layers.{cell_of}
use Rattle.clr_layer_streams.specs.declared.sources.LayerSource.{LayerSource}
use Rattle.clr_layer_streams.specs.declared.streams.LayerStream.{LayerStream}
use Rattle.clr_layer_streams.specs.Streams.{AreAllRows, AreFirstRows, HasRead, IsFaultOfFields, LayerForm, form_of, record_behind}
use Rattle.clr_cut_streams.specs.declared.faults.PassFault.{PassFault}
use Rattle.clr_cut_streams.specs.declared.faults.PassFault.TheVariants.{OutOfMemory, Unreadable, WriteFailed, Record}
use Rattle.clr_cut_streams.specs.declared.told.CutText.{CutText}
use Rattle.clr_cut_streams.specs.declared.told.Told.{Told}
use Rattle.clr_cut_streams.specs.Sinks.{HasFailed, Sinks, WentOut}
use Rattle.clr_cut_streams.specs.Told.{HasTold, cells_of_cut}

-- what a pass over some rows has told went out
pub record Tells {V F : Type 0} {finder : Ghosts F} (content : V → Content) (cut : CutText V F finder) (table : ℕ) (sinks : Sinks) (rows : List LayerRow)
    (told : Told) : Type 0 where
  pub text : List ℕ
  pub notes : List ℕ
  pub has_told : HasTold (aim_of cut.rows.now) (setting_in content cut.rows.now) cut.listed.now cut.schema.now table rows text notes told
  pub out : WentOut sinks text notes

-- it was over all rows of a layer of which none had been read yet, where the source tells its bytes
abbrev pub IsOverAll : {R : Type 0} → (R → Option (List ℕ)) → LayerSource R → LayerStream → List LayerRow → Type 0
IsOverAll remaining source stream rows = (bytes : List ℕ) → HasRead remaining bytes [] source stream → AreAllRows (form_of stream) bytes rows

abbrev pub IsWholePass : {R V F : Type 0} {finder : Ghosts F} → (R → Option (List ℕ)) → (V → Content) → LayerSource R → LayerStream → CutText V F finder
    → Sinks → Told → Type 0
IsWholePass remaining content source stream cut sinks told = (rows : List LayerRow) × IsOverAll remaining source stream rows
    × Tells content cut (form_of stream).table sinks rows told

-- these are the first rows of a layer, and those records stand behind them, where its text is known
abbrev pub AreRead : (List ℕ → Type 0) → LayerForm → List LayerRow → List (List (List ℕ)) → Type 0
AreRead IsText form rows behind = (bytes : List ℕ) → IsText bytes → AreFirstRows form bytes rows behind

-- the row has the key of one of these, at which the cut has a row
abbrev pub IsAgain : LayerForm → Setting ℕ → List LayerRow → LayerRow → Type 0
IsAgain form c rows r = Contains (cells_of_cut c form.table rows) (cell_of form.table r.key)

-- why a pass ends at the record behind these rows: it can't be read, or its row has no key, or has one again
abbrev pub IsFaultBehind : (List ℕ → Type 0) → LayerForm → Setting ℕ → List LayerRow → LayersFault → Type 0
IsFaultBehind IsText form c rows (Unread fault) = (fields : List (List ℕ)) × AreRead IsText form rows (fields ∷ []) × IsFaultOfFields form fields fault
IsFaultBehind IsText form c rows NoKey = (r : LayerRow) × AreRead IsText form (rows ++ r ∷ []) [] × (r.key ≡ None)
IsFaultBehind IsText form c rows KeyTwice = (r : LayerRow) × AreRead IsText form (rows ++ r ∷ []) [] × IsAgain form c rows r
IsFaultBehind IsText form c rows NoTable = ⊥
IsFaultBehind IsText form c rows TableTwice = ⊥

-- a pass has told of the rows before the record of a number, which has the fault
abbrev pub EndsAt : {R V F : Type 0} {finder : Ghosts F} → (R → Option (List ℕ)) → (V → Content) → LayerSource R → LayerStream → CutText V F finder → Sinks
    → ℕ → LayersFault → Type 0
EndsAt remaining content source stream cut sinks number fault = (rows : List LayerRow) × (told : Told)
    × Tells content cut (form_of stream).table sinks rows told
    × (number ≡ record_behind rows)
    × IsFaultBehind (λ bytes. HasRead remaining bytes [] source stream) (form_of stream) (setting_in content cut.rows.now) rows fault

-- why a pass ends before the stream does, by whether a read of the source has failed
abbrev pub IsPassFault : {R V F : Type 0} {finder : Ghosts F} → (R → Option (List ℕ)) → (V → Content) → LayerSource R → LayerStream → CutText V F finder
    → Sinks → Bool → PassFault → Type 0
IsPassFault remaining content source stream cut sinks failed OutOfMemory = ⊤
IsPassFault remaining content source stream cut sinks failed Unreadable = failed ≡ true
IsPassFault remaining content source stream cut sinks failed WriteFailed = HasFailed sinks
IsPassFault remaining content source stream cut sinks failed (Record number fault) = EndsAt remaining content source stream cut sinks number fault
