-- What holds of texts in quotes by their definition, whatever the code does.
use Rattle.std.specs.Prelude.{◌≡◌, ℕ, false, List, ◌++◌, Some}
use Rattle.clr_sql.specs.Quoting.{begins_with, quoted, read_quoted}

-- SQL reads a text in quotes as that text, whatever it holds, and goes on right behind it: so no name and no value ends its quotes
abbrev pub QuotingLaw : Type 0
QuotingLaw = (quote : ℕ) (text rest : List ℕ) → begins_with quote rest ≡ false → read_quoted quote (quoted quote text ++ rest) ≡ Some (text, rest)
