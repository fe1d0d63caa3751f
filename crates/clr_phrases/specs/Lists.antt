-- Names in a sentence.
use Rattle.std.specs.Prelude.{ℕ, Bool, false, List, [], ◌∷◌, ◌++◌, ◌==◌, codes, if◌then◌else◌}
use Rattle.std.specs.List.{list_any}

-- what stands behind the first of some names: each other behind a comma, and the last behind `and`
abbrev pub names_behind_first : List (List ℕ) → List ℕ
names_behind_first [] = []
names_behind_first (last ∷ []) = codes " and " ++ last
names_behind_first (name ∷ other ∷ names) = codes ", " ++ name ++ names_behind_first (other ∷ names)

-- names with commas between them, and `and` before the last
abbrev pub names_text : List (List ℕ) → List ℕ
names_text [] = []
names_text (name ∷ names) = name ++ names_behind_first names

abbrev pub begins_with_vowel : List ℕ → Bool
begins_with_vowel [] = false
begins_with_vowel (letter ∷ letters) = list_any (λ vowel. letter == vowel) (codes "aeiouAEIOU")

-- the indefinite article of a name
abbrev pub article_of : List ℕ → List ℕ
article_of name = if begins_with_vowel name then codes "an" else codes "a"
