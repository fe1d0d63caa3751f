-- Where records and their fields begin in a text of CSV, by the machine that reads it.
use Rattle.std.specs.Prelude.{ℕ, ◌+◌, ◌-◌, ◌==◌, ◌&&◌, Bool, true, false, not, List, drop, filter, get_or, length, take}
use Rattle.std.specs.Prelude.{slice_get, unwrap_or, if◌then◌else◌}
use Rattle.std.specs.List.{find, fold, range_with_len}
use Rattle.csv.specs.Machine.{ends_with, step}
use Rattle.csv.specs.Reading.{default_config}
use Rattle.csv.specs.declared.parser.Action.{Action}
use Rattle.csv.specs.declared.parser.Action.TheVariants as act
use Rattle.csv.specs.declared.parser.State.{State}
use Rattle.csv.specs.declared.parser.State.TheVariants as st
use Rattle.csv.specs.declared.parser.Terminator.TheVariants as term
use Rattle.clr_layer_faults.specs.declared.field_places.Reading.{Reading}
use Rattle.clr_layer_faults.specs.declared.field_places.Reading.TheVariants as reading

-- the state of the machine, as it is kept
abbrev pub seen : Reading → State
seen reading.Between = st.StartRecord
seen reading.BehindReturn = st.AfterCr
seen reading.Before = st.StartField
seen reading.Bare = st.InField
seen reading.Quoted = st.InQuoted
seen reading.Closing = st.AfterQuote

abbrev pub next_state : State → ℕ → State
next_state s byte = (step default_config s byte).0

-- the state behind some bytes
abbrev pub state_after : List ℕ → State
state_after bytes = fold next_state st.StartRecord bytes

-- records -----------------------------------------------------------------------------------------------

abbrev pub is_between : State → Bool
is_between st.StartRecord = true
is_between st.AfterCr = true
is_between _ = false

-- a record begins at a byte between records that doesn't end one
abbrev pub begins_record : State → ℕ → Bool
begins_record s byte = is_between s && not (ends_with term.CRLF byte)

abbrev pub begins_record_at : List ℕ → ℕ → Bool
begins_record_at bytes at = begins_record (state_after (take at bytes)) (get_or bytes at 0)

-- the offsets at which records begin, ascending
abbrev pub record_starts : List ℕ → List ℕ
record_starts bytes = filter (begins_record_at bytes) (range_with_len 0 (length bytes))

-- where the record of a number begins, counted from 1; the front of the text where there is none
abbrev pub record_start : List ℕ → ℕ → ℕ
record_start bytes number = unwrap_or (slice_get (record_starts bytes) (number - 1)) 0

-- fields ------------------------------------------------------------------------------------------------

-- an action ends a field behind which another one begins
abbrev pub ends_field : Action → Bool
ends_field act.EndField = true
ends_field act.Skip = false
ends_field act.Copy = false
ends_field act.EndRecord = false

-- the state, and how many fields have ended so
abbrev pub Scan : Type 0
Scan = State × ℕ

abbrev pub next_scan : Scan → ℕ → Scan
next_scan scan byte = (next_state scan.0 byte, (if ends_field (step default_config scan.0 byte).1 then scan.1 + 1 else scan.1))

abbrev pub scan_of : List ℕ → Scan
scan_of bytes = fold next_scan (st.StartRecord, 0) bytes

-- how many fields have ended in some bytes, from the front of a record on
abbrev pub ended_fields : List ℕ → ℕ
ended_fields bytes = (scan_of bytes).1

-- so many fields have ended before an offset
abbrev pub ends_before : List ℕ → ℕ → ℕ → Bool
ends_before bytes field at = ended_fields (take at bytes) == field

-- where a field of a record begins, counted from 0: at the first offset before which so many fields have ended
abbrev pub field_offset : List ℕ → ℕ → ℕ
field_offset bytes field = unwrap_or (find (ends_before bytes field) (range_with_len 0 (length bytes + 1))) 0

-- where a field of a record of a text begins
abbrev pub field_place : List ℕ → ℕ → ℕ → ℕ
field_place bytes number field = record_start bytes number + field_offset (drop (record_start bytes number) bytes) field
