-- A text in lines, and the separator among them.
use Rattle.std.specs.Prelude.{ℕ, ◌+◌, ◌==◌, ◌||◌, List, [], ◌∷◌, take, drop, codes, Bool, Option, if◌then◌else◌, option_map}
use Rattle.std.specs.Str.{bytes_eq}
use Rattle.std.specs.List.{concat, position}
use Rattle.std.specs.Io.BufRead.{strip_last}

-- a byte at the front of the first line, or a line of its own where there is no line
abbrev pub onto_first : ℕ → List (List ℕ) → List (List ℕ)
onto_first byte [] = (byte ∷ []) ∷ []
onto_first byte (line ∷ later) = (byte ∷ line) ∷ later

-- the lines of a text, each with the `\n` that ends it; the last one may end without
abbrev pub lines_of : List ℕ → List (List ℕ)
lines_of [] = []
lines_of (byte ∷ rest) = if byte == 10 then (byte ∷ []) ∷ lines_of rest else onto_first byte (lines_of rest)

-- whether a line is `---`, or so with one `\r` after it, where the `\n` that may end it doesn't count
abbrev pub is_separator : List ℕ → Bool
is_separator line = bytes_eq (strip_last 10 line) (codes "---") || bytes_eq (strip_last 10 line) (codes "---\r")

-- the text before the line at a position, and the text after it
abbrev pub around_line : List (List ℕ) → ℕ → List ℕ × List ℕ
around_line lines position = (concat (take position lines), concat (drop (position + 1) lines))

-- the text before the first line that is the separator, and the text after it
unfoldable pub around_separator : List ℕ → Option (List ℕ × List ℕ)
around_separator text = option_map (around_line (lines_of text)) (position is_separator (lines_of text))
