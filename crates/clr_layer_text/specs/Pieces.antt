-- Texts cut at a mark.
use Rattle.std.specs.Prelude.{ℕ, ◌==◌, Bool, not, List, length, filter, Option, option_map, position}
use Rattle.std.specs.List.{after_first, before_first, list_all, list_any, slice_split}

abbrev pub is_mark : ℕ → ℕ → Bool
is_mark mark b = b == mark

-- what stands before and behind the first such mark of a text, if it has one
unfoldable pub cut_of : ℕ → List ℕ → Option (List ℕ × List ℕ)
cut_of mark text = option_map (λ _. (before_first (is_mark mark) text, after_first (is_mark mark) text)) (position (is_mark mark) text)

-- the pieces of a text between such marks, one more than there are marks
abbrev pub pieces_of : ℕ → List ℕ → List (List ℕ)
pieces_of mark text = slice_split (is_mark mark) text

abbrev pub space : ℕ
space = 32

abbrev pub comma : ℕ
comma = 44

abbrev pub contains_byte : ℕ → List ℕ → Bool
contains_byte mark text = list_any (is_mark mark) text

abbrev pub is_empty : List ℕ → Bool
is_empty text = length text == 0

-- a text of spaces alone, or of nothing
abbrev pub is_blank : List ℕ → Bool
is_blank text = list_all (is_mark space) text

-- the words of a text: what stands between its spaces
abbrev pub spaced_words_of : List ℕ → List (List ℕ)
spaced_words_of text = filter (λ word. not (is_empty word)) (pieces_of space text)
