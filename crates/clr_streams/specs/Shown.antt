-- Texts that a terminal shows as they stand: no character of them is one that it obeys instead, so that it hides, turns or overwrites others.
use Rattle.std.specs.Prelude.{◌≡◌, ℕ, Bool, false, not, ◌&&◌, ◌||◌, List, [], ◌∷◌, nat_eq, nat_lt, nat_le, if◌then◌else◌}

-- a control character of one byte: below 32, or 127; the end of a line (10) is none where lines are kept
abbrev pub is_control : Bool → ℕ → Bool
is_control keeps_lines b = (nat_lt b 32 && not (keeps_lines && nat_eq b 10)) || nat_eq b 127

-- the second byte of a control character of two: U+0080 to U+009F
abbrev pub ends_control : ℕ → ℕ → Bool
ends_control before b = nat_le 128 b && nat_lt b 160 && nat_eq before 194

-- the last byte of U+200E or U+200F, which mark a direction, or of one from U+2028 to U+202E: ends of lines and paragraphs, and what turns a text
abbrev pub ends_turn : ℕ → ℕ → ℕ → Bool
ends_turn first second b = (nat_eq b 142 || nat_eq b 143 || (nat_le 168 b && nat_le b 174)) && nat_eq first 226 && nat_eq second 128

-- the last byte of one from U+2066 to U+2069, which turn a text on its own
abbrev pub ends_isolate : ℕ → ℕ → ℕ → Bool
ends_isolate first second b = nat_le 166 b && nat_le b 169 && nat_eq first 226 && nat_eq second 129

-- a byte, behind two others, ends a character that a terminal obeys
abbrev pub is_obeyed : Bool → ℕ → ℕ → ℕ → Bool
is_obeyed keeps_lines first second b = is_control keeps_lines b || ends_control second b || ends_turn first second b || ends_isolate first second b

-- no byte of a text that stands behind two others ends such a character
unfoldable pub IsShowableBehind : Bool → ℕ → ℕ → List ℕ → Type 0
IsShowableBehind keeps_lines first second [] = Unit {0}
IsShowableBehind keeps_lines first second (b ∷ text) = (is_obeyed keeps_lines first second b ≡ false) × IsShowableBehind keeps_lines second b text

-- a terminal shows the text as it stands, in its lines or all on one
abbrev pub IsShowable : Bool → List ℕ → Type 0
IsShowable keeps_lines text = IsShowableBehind keeps_lines 0 0 text

-- what stands in place of a byte: where it ends such a character, the end of a blank of as many bytes, which are a space, U+00A0, U+202F and U+205F
abbrev pub shown_byte : Bool → ℕ → ℕ → ℕ → ℕ
shown_byte keeps_lines first second b =
    if is_control keeps_lines b then 32
    else if ends_control second b then 160
    else if ends_turn first second b then 175
    else if ends_isolate first second b then 159
    else b

unfoldable pub shown_behind : Bool → ℕ → ℕ → List ℕ → List ℕ
shown_behind keeps_lines first second [] = []
shown_behind keeps_lines first second (b ∷ text) =
    shown_byte keeps_lines first second b ∷ shown_behind keeps_lines second (shown_byte keeps_lines first second b) text

-- a text with a blank in place of each character that a terminal obeys
abbrev pub shown : Bool → List ℕ → List ℕ
shown keeps_lines text = shown_behind keeps_lines 0 0 text

abbrev pub ShownTextsAreShowable : Type 0
ShownTextsAreShowable = (keeps_lines : Bool) (text : List ℕ) → IsShowable keeps_lines (shown keeps_lines text)

-- what a terminal shows as it stands is left so
abbrev pub ShowableTextsStay : Type 0
ShowableTextsStay = (keeps_lines : Bool) (text : List ℕ) → IsShowable keeps_lines text → shown keeps_lines text ≡ text
