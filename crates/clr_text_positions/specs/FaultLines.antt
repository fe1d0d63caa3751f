-- The lines of a fault.
use Rattle.std.specs.Prelude.{◌≡◌, ◌+◌, ℕ, List, [], ◌++◌, Option, Some, None, codes, decimal, take, count_by, String, string_bytes}
use Rattle.std.specs.declared.alloc.Global.{Global}
use Rattle.clr_text_positions.specs.Places.{begins_character, is_line_end, last_line}
use Rattle.clr_text_positions.specs.declared.remarks.Remark.{Remark}

-- the line of a byte, counted from 1
abbrev pub line_number_of : List ℕ → ℕ → ℕ
line_number_of text offset = count_by is_line_end (take offset text) + 1

-- the column of a byte in its line, in characters, counted from 1
abbrev pub column_number_of : List ℕ → ℕ → ℕ
column_number_of text offset = count_by begins_character (last_line (take offset text)) + 1

-- where the byte stands, and what else is said of that place
abbrev pub place_line : List ℕ → Remark → List ℕ
place_line text remark =
    codes "at line " ++ decimal (line_number_of text remark.offset) ++ codes ", column " ++ decimal (column_number_of text remark.offset)
    ++ string_bytes remark.place ++ codes "\n"

abbrev pub hint_line : Option (String Global) → List ℕ
hint_line None = []
hint_line (Some hint) = codes "hint: " ++ string_bytes hint ++ codes "\n"

-- the name of a fault, its place, lines that show it, a sentence, and a hint where there is one
abbrev pub AreFaultLines : List ℕ → List ℕ → Remark → List ℕ → Type 0
AreFaultLines text name remark lines = (shown : List ℕ)
    × (lines ≡ name ++ codes "\n" ++ place_line text remark ++ shown ++ string_bytes remark.sentence ++ codes "\n" ++ hint_line remark.hint)

-- the file, the line, the column and the sentence
abbrev pub short_line : List ℕ → List ℕ → Remark → List ℕ
short_line text file remark = file ++ codes ":" ++ decimal (line_number_of text remark.offset) ++ codes ":" ++ decimal (column_number_of text remark.offset)
    ++ codes ": " ++ string_bytes remark.sentence ++ codes "\n"
