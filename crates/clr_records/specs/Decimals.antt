-- A whole number of 64 bits in decimal, in its one form.
use Rattle.std.specs.Prelude.{ℕ, ℤ, ◌&&◌, List, Option, Some, None, if◌then◌else◌}
use Rattle.std.specs.Str.{bytes_eq}
use Rattle.std.specs.Str.Parse.{signed_digits_value}
use Rattle.std.specs.Fmt.{signed_decimal}
use Rattle.clr_rows.specs.Numbers.{is_i64}

-- the number whose decimal a text is, if it is the decimal of one
unfoldable pub number_of : List ℕ → Option ℤ
number_of text =
    if bytes_eq text (signed_decimal (signed_digits_value 10 text)) && is_i64 (signed_digits_value 10 text) then Some (signed_digits_value 10 text)
    else None
