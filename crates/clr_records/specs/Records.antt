-- The records of a text, their fields, and reading them one after another.
use Rattle.std.specs.Prelude.{ℕ, ◌+◌, List, [], ◌∷◌, Option, Some, None, Result, Ok, Err, unwrap_or, if◌then◌else◌}
use Rattle.std.specs.Str.{is_utf8}
use Rattle.csv.specs.Reading.{default_config, records, strip_bom}
use Rattle.csv.specs.Records.{field_at}
use Rattle.clr_readings.specs.Readings.{◌>>=◌}

-- the records of a text without headers, or none where the bytes aren't UTF-8
abbrev pub records_in : List ℕ → Option (List (List (List ℕ)))
records_in bytes = if is_utf8 bytes then Some (records default_config (strip_bom bytes)) else None

-- the field at a position from 0, or an empty one
abbrev pub field_of : List (List ℕ) → ℕ → List ℕ
field_of fields at = unwrap_or (field_at fields at) []

-- a fault with the number of the record that has it
abbrev pub at_record : {A E : Type 0} → ℕ → Result A E → Result A (ℕ × E)
at_record n (Ok x) = Ok x
at_record n (Err e) = Err (n, e)

-- each item read with its number, from n on, up to the first fault
unfoldable pub in_turn : {X A E : Type 0} → (ℕ → X → Result A E) → ℕ → List X → Result (List A) E
in_turn f n [] = Ok []
in_turn f n (x ∷ xs) = do
  first ← f n x
  others ← in_turn f (n + 1) xs
  Ok (first ∷ others)
