-- Lines and columns of texts.
use Rattle.std.specs.Prelude.{ℕ, ◌==◌, ◌-◌, ◌||◌, nat_lt, Bool, List, length, drop, position, reverse, unwrap_or}

abbrev pub is_line_end : ℕ → Bool
is_line_end byte = byte == 10

-- a byte of UTF-8 that isn't within a character
abbrev pub begins_character : ℕ → Bool
begins_character byte = nat_lt byte 128 || nat_lt 191 byte

-- how many bytes stand behind the last line end, or all where there is none
abbrev pub last_line_length : List ℕ → ℕ
last_line_length text = unwrap_or (position is_line_end (reverse text)) (length text)

-- the part behind the last line end
abbrev pub last_line : List ℕ → List ℕ
last_line text = drop (length text - last_line_length text) text

-- how many bytes stand before the first line end, or all where there is none
abbrev pub next_line_length : List ℕ → ℕ
next_line_length text = unwrap_or (position is_line_end text) (length text)
