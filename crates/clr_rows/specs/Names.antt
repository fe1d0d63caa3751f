-- Names of tables, columns, workspaces and savepoints.
use Rattle.std.specs.Prelude.{ℕ, Bool, false, List, [], ◌∷◌, length, ◌&&◌, ◌||◌, ◌==◌, nat_le}
use Rattle.std.specs.List.{list_all}
use Rattle.std.specs.Str.{bytes_eq}
use Rattle.clr_rows.specs.declared.limits.TheConstants.{KEY, LIVE, MOST_NAME_BYTES}

abbrev pub is_between : ℕ → ℕ → ℕ → Bool
is_between low c high = nat_le low c && nat_le c high

-- an ASCII letter
abbrev pub is_letter : ℕ → Bool
is_letter c = is_between 65 c 90 || is_between 97 c 122

-- an ASCII letter, a digit or `_`
abbrev pub is_name_byte : ℕ → Bool
is_name_byte c = is_letter c || is_between 48 c 57 || c == 95

abbrev pub begins_with_letter : List ℕ → Bool
begins_with_letter [] = false
begins_with_letter (c ∷ cs) = is_letter c

-- a good name: no more bytes than the most; first a letter, then letters, digits or `_`
unfoldable pub is_good_name : List ℕ → Bool
is_good_name name = begins_with_letter name && nat_le (length name) MOST_NAME_BYTES && list_all is_name_byte name

-- the word `KEY`, which stands for the primary key where a column is named
abbrev pub is_key_word : List ℕ → Bool
is_key_word name = bytes_eq name KEY.now

-- the name of the top workspace
abbrev pub live_name : List ℕ
live_name = LIVE.now
