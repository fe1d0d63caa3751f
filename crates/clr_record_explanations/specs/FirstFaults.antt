-- The first record of a text whose own reading answers a fault.
use Rattle.std.specs.Prelude.{◌≡◌, ℕ, zero, suc, ◌<◌, List, take, slice_get, Option, Some, None, Result, Ok, Err}
use Rattle.std.specs.Option.{option_and_then}
use Rattle.clr_records.specs.Records.{records_in}

-- the fields of a record
abbrev pub RecordFields : Type 0
RecordFields = List (List ℕ)

-- whether a record can be read behind those before it, or its own fault
abbrev pub Reading : Type 0 → Type 0
Reading E = List RecordFields → RecordFields → Result (Unit {0}) E

-- whether something can be read, whatever it means
abbrev pub readable : {A E : Type 0} → Result A E → Result (Unit {0}) E
readable (Ok x) = Ok tt
readable (Err e) = Err e

-- the record at a place, counted from 0, answers this fault, and all before it can be read
pub record IsFirstFault {E : Type 0} (reads : Reading E) (rows : List RecordFields) (at : ℕ) (e : E) : Type 0 where
  pub there : (fields : RecordFields) × (slice_get rows at ≡ Some fields) × (reads (take at rows) fields ≡ Err e)
  pub earlier : (k : ℕ) (fields : RecordFields) → k < at → slice_get rows k ≡ Some fields → reads (take k rows) fields ≡ Ok tt

-- the record of a number, counted from 1
abbrev pub record_numbered : List RecordFields → ℕ → Option RecordFields
record_numbered rows zero = None
record_numbered rows (suc at) = slice_get rows at

-- the record of a number of a text in UTF-8
abbrev pub record_in : List ℕ → ℕ → Option RecordFields
record_in bytes number = option_and_then (λ rows. record_numbered rows number) (records_in bytes)
