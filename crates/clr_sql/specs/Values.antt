-- Values as SQL has them, and which of them it can have.
use Rattle.std.specs.Prelude.{ℕ, Bool, false, List, ◌||◌, not, nat_eq}
use Rattle.std.specs.Fmt.{signed_decimal}
use Rattle.std.specs.List.{list_all, list_any}
use Rattle.clr_rows.specs.declared.rows.Row.{Row}
use Rattle.clr_rows.specs.declared.rows.Value.{Value}
use Rattle.clr_rows.specs.declared.rows.Value.TheVariants.{Int, Words}
use Rattle.clr_sql.specs.Quoting.{quoted_text}

-- a number in decimal, or a text in quotes
abbrev pub value_text : Value → List ℕ
value_text (Int n) = signed_decimal n
value_text (Words text) = quoted_text text

-- bytes that psql and sqlite3 don't hand on as they are: 0, which ends a line there, and a carriage return (13), which goes with a line end
abbrev pub is_lost : ℕ → Bool
is_lost byte = nat_eq byte 0 || nat_eq byte 13

abbrev pub has_lost_byte : Value → Bool
has_lost_byte (Int n) = false
has_lost_byte (Words text) = list_any is_lost text

-- a row whose texts are handed on as they are
abbrev pub is_sayable : Row → Bool
is_sayable row = list_all (λ value. not (has_lost_byte value)) row.values
