-- Blank lines of a text, which are no records.
use Rattle.std.specs.Prelude.{ℕ, ◌==◌, Bool, false, not, ◌&&◌, ◌||◌, List, [], ◌∷◌, filter, Option, Some, None, codes, if◌then◌else◌}
use Rattle.clr_text_positions.specs.Places.{is_line_end}

abbrev pub is_carriage_return : ℕ → Bool
is_carriage_return byte = byte == 13

-- a line end stands right behind another
abbrev pub repeats_line_end : List ℕ → Bool
repeats_line_end [] = false
repeats_line_end (_ ∷ []) = false
repeats_line_end (a ∷ b ∷ bytes) = (is_line_end a && is_line_end b) || repeats_line_end (b ∷ bytes)

-- nothing but carriage returns stands before a line end: between it and the one before, or the front of the text
abbrev pub has_blank_line : List ℕ → Bool
has_blank_line text = repeats_line_end (10 ∷ filter (λ byte. not (is_carriage_return byte)) text)

abbrev pub blank_lines_hint : List ℕ → Option (List ℕ)
blank_lines_hint text = if has_blank_line text then Some (codes "blank lines are no records and aren't counted") else None
