-- Whole millimetres in place of decimal numbers of metres.
use Rattle.std.specs.Prelude.{ℕ, ℤ, ◌-◌, ◌==◌, nat_le, nat_lt, Bool, ◌&&◌, ◌||◌, List, ◌++◌, length, replicate, position}
use Rattle.std.specs.Prelude.{Option, Some, None, codes, if◌then◌else◌}
use Rattle.std.specs.List.{after_first, before_first, list_all, list_any}
use Rattle.std.specs.Fmt.{signed_decimal}
use Rattle.std.specs.Option.{option_and_then, option_map}
use Rattle.std.specs.Str.Parse.{signed_digits_value, without_leading_sign}
use Rattle.clr_rows.specs.Numbers.{is_i64}
use Rattle.clr_hints.specs.declared.metres.TheConstants.{DECIMALS}

abbrev pub is_decimal_point : ℕ → Bool
is_decimal_point byte = byte == 46

abbrev pub is_digit : ℕ → Bool
is_digit byte = nat_le 48 byte && nat_le byte 57

-- what stands before the first point of a text, and behind it
abbrev pub around_point : List ℕ → Option (List ℕ × List ℕ)
around_point text = option_map (λ _. (before_first is_decimal_point text, after_first is_decimal_point text)) (position is_decimal_point text)

-- no more digits behind the point than a whole number of millimetres has, nothing but digits, and a digit before it where there is none behind it
abbrev pub is_decimal : List ℕ → List ℕ → Bool
is_decimal whole decimals = list_all is_digit decimals && nat_le (length decimals) DECIMALS && (nat_lt 0 (length decimals) || list_any is_digit whole)

-- the digits with the point moved behind them, zeros (48) where none are written
abbrev pub moved : List ℕ → List ℕ → List ℕ
moved whole decimals = whole ++ decimals ++ replicate (DECIMALS - length decimals) 48

-- one digit or more, and nothing else
abbrev pub is_numeral : List ℕ → Bool
is_numeral text = nat_lt 0 (length text) && list_all is_digit text

-- the whole number of 64 bits that a text is, with a sign or without one
unfoldable pub whole_number : List ℕ → Option ℤ
whole_number text =
    if is_numeral (without_leading_sign text) && is_i64 (signed_digits_value 10 text) then Some (signed_digits_value 10 text) else None

-- the millimetres of a decimal number of metres: an optional sign, digits, a point and up to three digits, at least one digit in all
abbrev pub millimetres_of : List ℕ → Option ℤ
millimetres_of text =
    option_and_then (λ parts. if is_decimal parts.0 parts.1 then whole_number (moved parts.0 parts.1) else None) (around_point text)

-- the hint at a text that may be a number of metres
abbrev pub metres_hint : List ℕ → Option (List ℕ)
metres_hint text = option_map (λ millimetres. codes "for metres write " ++ signed_decimal millimetres) (millimetres_of text)
