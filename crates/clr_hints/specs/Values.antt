-- How a sentence shows values of JSON texts.
use Rattle.std.specs.Prelude.{◌≡◌, ℕ, ◌≤◌, false, List, ◌++◌, Some, codes, length, nat_lt, if◌then◌else◌}
use Rattle.std.specs.Fmt.{take_chars}
use Rattle.serde_json.specs.Data.{Data, depth, null, boolean, number, string, array, object}
use Rattle.serde_json.specs.Read.{max_depth, read}
use Rattle.serde_json.specs.Written.{IsInOrder, compact_text, has_float}
use Rattle.clr_hints.specs.declared.values.TheConstants.{MOST_SHOWN}

-- the most characters of a text that a sentence shows
abbrev pub shown_front : List ℕ → List ℕ
shown_front text = take_chars MOST_SHOWN text

-- the text where it is shown whole, and else what is shown of it and two full stops
abbrev pub short_text : List ℕ → List ℕ
short_text text = if nat_lt (length (shown_front text)) (length text) then shown_front text ++ codes ".." else shown_front text

-- a text of a value: it has its parts in order, is read as the value again where that isn't nested too deep, and is exactly one where no number in it is
-- a float
pub record IsWritten (value : Data) (text : List ℕ) : Type 0 where
  pub order : IsInOrder text value
  pub reads_back : depth value ≤ max_depth → read text ≡ Some value
  pub exact : has_float value ≡ false → text ≡ compact_text value

-- which kind of value this is, with its article
abbrev pub kind_in_words : Data → List ℕ
kind_in_words null = codes "null"
kind_in_words (boolean _) = codes "a flag"
kind_in_words (number _) = codes "a number"
kind_in_words (string _) = codes "a text"
kind_in_words (array _) = codes "a list"
kind_in_words (object _) = codes "an object"
