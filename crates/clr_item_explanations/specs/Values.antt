-- Values within an item, by the keys at which they stand.
use Rattle.std.specs.Prelude.{ℕ, ℤ, Bool, List, [], ◌∷◌, Option, option_and_then, unwrap_or, slice_get}
use Rattle.std.specs.Option.{option_map_or}
use Rattle.std.specs.List.{list_any}
use Rattle.std.specs.Str.{bytes_eq}
use Rattle.serde_json.specs.Data.{Data, Items, no_items, item}
use Rattle.serde_json.specs.Find.{as_array, as_i64, as_number, as_str, at, get}
use Rattle.clr_rows.specs.declared.tables.TableDef.{TableDef}
use Rattle.clr_rows.specs.Schemas.{table_named}
use Rattle.clr_text_positions.specs.Keys.{key_text}
use Rattle.clr_text_positions.specs.declared.paths.Key.{Key}

-- the items of a list, in order
abbrev pub listed : Items → List Data
listed no_items = []
listed (item d ds) = d ∷ listed ds

-- the value at a key
abbrev pub value_at : Key → Data → Option Data
value_at k d = get (key_text k) d

-- the text at a key, or no text
unfoldable pub text_at : Key → Data → List ℕ
text_at k d = unwrap_or (option_and_then as_str (value_at k d)) []

-- the items of the list at a key, or none where no list stands there
unfoldable pub items_at : Key → Data → List Data
items_at k d = option_map_or listed (option_and_then as_array (value_at k d)) []

-- the text that a list begins with, or no text
unfoldable pub first_text : Data → List ℕ
first_text d = unwrap_or (option_and_then as_str (at 0 d)) []

-- a whole number of 64 bits
abbrev pub whole_number : Data → Option ℤ
whole_number d = option_and_then as_i64 (as_number d)

-- a text is one of some
abbrev pub stands_among : List (List ℕ) → List ℕ → Bool
stands_among texts text = list_any (λ one. bytes_eq one text) texts

-- the table of a name
abbrev pub table_called : List TableDef → List ℕ → Option TableDef
table_called tables name = option_and_then (slice_get tables) (table_named tables name)
