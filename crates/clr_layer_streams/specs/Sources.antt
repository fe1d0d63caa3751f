-- What the records of a layer are read from, one at a time.
use Rattle.std.specs.Prelude.{◌≡◌, ℕ, Bool, false, true, List, ⊤, Option, option_map}
use Rattle.csv.specs.Reading.{Ready, TookRecord, default_config, has_failed, is_flexible, reader_config, reader_source, reader_state, reader_trim, source_of}
use Rattle.csv.specs.Reading.{strip_bom}
use Rattle.csv.specs.Records.{AllText}
use Rattle.csv.specs.declared.parser.State.TheVariants as st
use Rattle.csv.specs.declared.reader.Trim.TheVariants as trim
use Rattle.clr_layer_text.specs.declared.faults.LayerFault.TheVariants.{NotCsv}
use Rattle.clr_layer_streams.specs.declared.faults.StreamFault.{StreamFault}
use Rattle.clr_layer_streams.specs.declared.faults.StreamFault.TheVariants.{OutOfMemory, Unreadable, Record}
use Rattle.clr_layer_streams.specs.declared.sources.LayerSource.{LayerSource}
use Rattle.clr_layer_streams.specs.declared.sources.Watched.{Watched}

-- the bytes of the reader that is watched, where it tells them
abbrev pub below : {R : Type 0} → (R → Option (List ℕ)) → Watched R → Option (List ℕ)
below remaining watched = remaining watched.inner

-- the bytes of the reader of a source, where it tells them
abbrev pub bytes_of : {R : Type 0} → (R → Option (List ℕ)) → LayerSource R → Option (List ℕ)
bytes_of remaining source = below remaining (reader_source source.reader)

-- whether a read of the reader of a source has failed
abbrev pub is_failed : {R : Type 0} → LayerSource R → Bool
is_failed source = (reader_source source.reader).failed

-- a source that can be read on: each record is taken as it is, with whatever number of fields, and no read has failed
pub record CanGoOn {R : Type 0} (source : LayerSource R) : Type 0 where
  pub trim : reader_trim source.reader ≡ trim.None
  pub ready : Ready source.reader
  pub config : reader_config source.reader ≡ default_config
  pub flexible : is_flexible source.reader ≡ true
  pub sound : has_failed source.reader ≡ false
  pub unfailed : is_failed source ≡ false

-- a source of which nothing was read yet
pub record IsUnread {R : Type 0} (remaining : R → Option (List ℕ)) (source : LayerSource R) : Type 0 where
  pub reading : CanGoOn source
  pub state : reader_state source.reader ≡ st.StartRecord
  pub bytes : source_of (below remaining) source.reader ≡ option_map strip_bom (bytes_of remaining source)

-- why the record of a number isn't read: a read has failed, or its fields, which were read, are no text
abbrev pub IsFaultOfRecord : {R : Type 0} → (R → Option (List ℕ)) → LayerSource R → LayerSource R → ℕ → StreamFault → Type 0
IsFaultOfRecord remaining old new number OutOfMemory = ⊤
IsFaultOfRecord remaining old new number Unreadable = is_failed new ≡ true
IsFaultOfRecord remaining old new number (Record m fault) = (m ≡ number) × (fault ≡ NotCsv)
    × ((fields : List (List ℕ)) × TookRecord (below remaining) old.reader new.reader fields × ¬ (AllText fields))
