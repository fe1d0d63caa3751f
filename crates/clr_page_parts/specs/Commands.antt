-- The words of commands that a page tells.
use Rattle.std.specs.Prelude.{ℕ, List, ◌++◌, codes}
use Rattle.std.specs.List.{flat_map}

-- a word of a command, behind a space
abbrev pub word_text : List ℕ → List ℕ
word_text word = codes " " ++ word

-- words of a command, each behind a space
abbrev pub words_text : List (List ℕ) → List ℕ
words_text words = flat_map word_text words
