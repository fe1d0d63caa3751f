-- Whole millimetres, read by the digits of decimal numbers of metres.
use Rattle.std.specs.Prelude.{ℕ, ◌+◌, ◌*◌, ◌-◌, ◌==◌, ◌&&◌, nat_le, ℤ, pos, negsuc, neg_ℤ, List, [], drop, get_or}
use Rattle.std.specs.Prelude.{Bool, not, Option, Some, None, Result, Ok, Err, if◌then◌else◌}
use Rattle.std.specs.List.{list_all, list_any}
use Rattle.clr_rows.specs.Names.{is_between}
use Rattle.clr_rows.specs.declared.faults.RowFault.TheVariants.{OutOfRange}
use Rattle.clr_records.specs.Decimals.{number_of}
use Rattle.clr_readings.specs.Readings.{◌>>=◌}
use Rattle.clr_metres.specs.Metres.{minus_sign, point, zero_digit}
use Rattle.clr_layer_text.specs.declared.faults.LayerFault.{LayerFault}
use Rattle.clr_layer_text.specs.declared.faults.LayerFault.TheVariants.{NotDecimal, Finer, Unfit}
use Rattle.clr_layer_text.specs.declared.limits.TheConstants.{MOST_METRES}
use Rattle.clr_layer_text.specs.Pieces.{cut_of, is_empty}

abbrev pub is_digit : ℕ → Bool
is_digit b = is_between 48 b 57

-- the digit at a place behind the point, 0 where none is written
abbrev pub digit_at : List ℕ → ℕ → ℕ
digit_at digits at = get_or digits at zero_digit - zero_digit

-- the millimetres that stand behind the point
abbrev pub thousandths : List ℕ → ℕ
thousandths digits = 100 * digit_at digits 0 + 10 * digit_at digits 1 + digit_at digits 2

-- a digit other than 0 stands behind the third
abbrev pub is_finer : List ℕ → Bool
is_finer digits = list_any (λ b. not (b == zero_digit)) (drop 3 digits)

-- what is left out is half a millimetre or more
abbrev pub is_half : List ℕ → Bool
is_half digits = nat_le 5 (digit_at digits 3)

-- the whole metres, which have one form
abbrev pub whole_metres_of : Option ℤ → Result ℕ LayerFault
whole_metres_of (Some (pos n)) = if nat_le n MOST_METRES then Ok n else Err (Unfit OutOfRange)
whole_metres_of (Some (negsuc n)) = Err NotDecimal
whole_metres_of None = Err NotDecimal

-- the digits behind the point as millimetres, a half rounded up
abbrev pub nearest : List ℕ → ℕ
nearest digits = if is_half digits then thousandths digits + 1 else thousandths digits

-- the digits behind the point as millimetres: those finer than a millimetre are refused, or rounded
abbrev pub behind_point : Bool → List ℕ → Result ℕ LayerFault
behind_point rounded digits =
    if not (list_all is_digit digits) then Err NotDecimal
    else (if is_finer digits && not rounded then Err Finer
    else Ok (nearest digits))

-- the text before the point, and the digits behind it
abbrev pub around_point : Option (List ℕ × List ℕ) → List ℕ → List ℕ × List ℕ
around_point None text = (text, [])
around_point (Some parts) text = parts

-- the millimetres of a number of metres without a sign
unfoldable pub unsigned_of : Bool → List ℕ → Result ℕ LayerFault
unsigned_of rounded text = do
  whole ← whole_metres_of (number_of (around_point (cut_of point text) text).0)
  behind ← behind_point rounded (around_point (cut_of point text) text).1
  Ok (whole * 1000 + behind)

abbrev pub signed_of : Bool → Option (List ℕ × List ℕ) → List ℕ → Result ℤ LayerFault
signed_of rounded None text = unsigned_of rounded text >>= λ n. Ok (pos n)
signed_of rounded (Some parts) text = if is_empty parts.0 then (unsigned_of rounded parts.1 >>= λ n. Ok (neg_ℤ (pos n))) else Err NotDecimal

-- the millimetres of a number of metres
unfoldable pub millimetres_of : Bool → List ℕ → Result ℤ LayerFault
millimetres_of rounded text = signed_of rounded (cut_of minus_sign text) text
