-- Texts in which no character is taken for markup, and none stands that XML forbids.
use Rattle.std.specs.Prelude.{◌≡◌, ℕ, zero, suc, Bool, false, List, [], ◌∷◌, ◌++◌, ◌&&◌, ◌||◌, nat_eq, nat_le, nat_lt, not, codes, if◌then◌else◌}

-- a control character other than the end of a line
abbrev pub is_control : ℕ → Bool
is_control b = (nat_lt b 32 && not (nat_eq b 10)) || nat_eq b 127

-- a reference stands for each character that could be taken for markup, and a space for each control character
abbrev pub escaped_byte : ℕ → List ℕ
escaped_byte b =
    if nat_eq b 60 then codes "&lt;"
    else if nat_eq b 62 then codes "&gt;"
    else if nat_eq b 38 then codes "&amp;"
    else if nat_eq b 34 then codes "&quot;"
    else if nat_eq b 39 then codes "&apos;"
    else if is_control b then codes " "
    else b ∷ []

abbrev pub is_within : ℕ → ℕ → ℕ → Bool
is_within low high b = nat_le low b && nat_le b high

-- three bytes that are one of the other characters which XML 1.0 forbids: U+FFFE, U+FFFF, or half of a pair of UTF-16
abbrev pub is_forbidden : ℕ → ℕ → ℕ → Bool
is_forbidden a b c = (nat_eq a 239 && nat_eq b 191 && is_within 190 191 c) || (nat_eq a 237 && is_within 160 191 b && is_within 128 191 c)

abbrev pub begins_forbidden : List ℕ → Bool
begins_forbidden (a ∷ b ∷ c ∷ rest) = is_forbidden a b c
begins_forbidden _ = false

-- a text behind so many bytes of a forbidden character; a space stands for each such character
abbrev pub escaped_behind : ℕ → List ℕ → List ℕ
escaped_behind count [] = []
escaped_behind (suc count) (b ∷ rest) = escaped_behind count rest
escaped_behind zero (b ∷ rest) = if begins_forbidden (b ∷ rest) then codes " " ++ escaped_behind 2 rest else escaped_byte b ++ escaped_behind 0 rest

unfoldable pub escaped : List ℕ → List ℕ
escaped words = escaped_behind 0 words

-- the characters that could be taken for markup: `<`, `>`, `&` and quotation marks
abbrev pub is_markup : ℕ → Bool
is_markup b = nat_eq b 60 || nat_eq b 62 || nat_eq b 38 || nat_eq b 34 || nat_eq b 39

-- a reference, or a byte that is neither markup nor a control character
pub data IsHarmlessPiece : List ℕ → Type 0 where
  Less : IsHarmlessPiece (codes "&lt;")
  Greater : IsHarmlessPiece (codes "&gt;")
  Ampersand : IsHarmlessPiece (codes "&amp;")
  Quote : IsHarmlessPiece (codes "&quot;")
  Apostrophe : IsHarmlessPiece (codes "&apos;")
  Byte : (b : ℕ) → is_markup b ≡ false → is_control b ≡ false → IsHarmlessPiece (b ∷ [])

-- made of such pieces alone, with no forbidden character at the beginning of any: so there is none, since none begins within a reference
pub data IsHarmless : List ℕ → Type 0 where
  Nothing : IsHarmless []
  Begins : (piece rest : List ℕ) → IsHarmlessPiece piece → begins_forbidden (piece ++ rest) ≡ false → IsHarmless rest → IsHarmless (piece ++ rest)

abbrev pub EscapedTextsAreHarmless : Type 0
EscapedTextsAreHarmless = (words : List ℕ) → IsHarmless (escaped words)
