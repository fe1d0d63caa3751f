-- Names and texts in quotes, as SQL has them, and how SQL reads them.
use Rattle.std.specs.Prelude.{ℕ, Bool, false, List, [], ◌∷◌, ◌++◌, nat_eq, Option, Some, None, if◌then◌else◌}
use Rattle.std.specs.List.{flat_map}
use Rattle.std.specs.Option.{option_map}

-- names stand in double quotes (34), texts in single ones (39)
abbrev pub name_quote : ℕ
name_quote = 34

abbrev pub text_quote : ℕ
text_quote = 39

-- a byte within such quotes: a quote stands there twice
abbrev pub quoted_byte : ℕ → ℕ → List ℕ
quoted_byte quote byte = if nat_eq byte quote then quote ∷ quote ∷ [] else byte ∷ []

-- a text in such quotes
abbrev pub quoted : ℕ → List ℕ → List ℕ
quoted quote text = quote ∷ (flat_map (quoted_byte quote) text ++ quote ∷ [])

-- as `"main"`
abbrev pub quoted_name : List ℕ → List ℕ
quoted_name name = quoted name_quote name

-- as `'O''Hara'`
abbrev pub quoted_text : List ℕ → List ℕ
quoted_text text = quoted text_quote text

-- reading -----------------------------------------------------------------------------------------

abbrev pub begins_with : ℕ → List ℕ → Bool
begins_with quote [] = false
begins_with quote (byte ∷ rest) = nat_eq byte quote

-- a byte before what was read; what stands behind the text stays
abbrev pub behind_byte : ℕ → Option (List ℕ × List ℕ) → Option (List ℕ × List ℕ)
behind_byte byte read = option_map (λ p. (byte ∷ p.0, p.1)) read

-- what SQL reads behind an opening quote, and what stands behind the closing one: two quotes are one of the text, and a single one closes it
abbrev pub read_within : ℕ → List ℕ → Option (List ℕ × List ℕ)
read_within quote [] = None
read_within quote (a ∷ []) = if nat_eq a quote then Some ([], []) else None
read_within quote (a ∷ b ∷ rest) =
    if nat_eq a quote then (if nat_eq b quote then behind_byte quote (read_within quote rest) else Some ([], b ∷ rest))
    else behind_byte a (read_within quote (b ∷ rest))

abbrev pub read_quoted : ℕ → List ℕ → Option (List ℕ × List ℕ)
read_quoted quote [] = None
read_quoted quote (byte ∷ rest) = if nat_eq byte quote then read_within quote rest else None
