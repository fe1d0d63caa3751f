-- The values of a row as fields of a record.
use Rattle.std.specs.Prelude.{ℕ, List, Option, Some, IsUtf8}
use Rattle.std.specs.Option.{option_map}
use Rattle.std.specs.Fmt.{signed_decimal}
use Rattle.clr_rows.specs.declared.rows.Value.{Value}
use Rattle.clr_rows.specs.declared.rows.Value.TheVariants.{Int, Words}
use Rattle.clr_rows.specs.declared.tables.Kind.{Kind}
use Rattle.clr_rows.specs.declared.tables.Kind.TheVariants as kind
use Rattle.clr_records.specs.Decimals.{number_of}

-- a number in decimal, and a text as it is
abbrev pub value_field : Value → List ℕ
value_field (Int n) = signed_decimal n
value_field (Words text) = text

-- the value of a kind that a field is, if it is one
abbrev pub value_of_kind : Kind → List ℕ → Option Value
value_of_kind kind.Int text = option_map Int (number_of text)
value_of_kind kind.Words text = Some (Words text)

-- a number, or a text in UTF-8, as every text of the program is
abbrev pub IsText : Value → Type 0
IsText (Int n) = Unit {0}
IsText (Words text) = IsUtf8 text
