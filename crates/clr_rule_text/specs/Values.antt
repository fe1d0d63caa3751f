-- A text or a whole number.
use Rattle.std.specs.Prelude.{ℕ, List, Option, Some, None, Result, Ok}
use Rattle.serde_json.specs.Data.{Data}
use Rattle.serde_json.specs.Find.{as_str}
use Rattle.clr_rows.specs.declared.rows.Value.{Value}
use Rattle.clr_rows.specs.declared.rows.Value.TheVariants.{Int, Words}
use Rattle.clr_rule_text.specs.declared.faults.TextFault.{TextFault}
use Rattle.clr_readings.specs.Readings.{◌>>=◌}
use Rattle.clr_rule_text.specs.Fields.{number_of}

abbrev pub words_or_number : Option (List ℕ) → Data → Result Value TextFault
words_or_number (Some text) d = Ok (Words text)
words_or_number None d = number_of d >>= λ n. Ok (Int n)

-- a text or a whole number
abbrev pub value_of : Data → Result Value TextFault
value_of d = words_or_number (as_str d) d
