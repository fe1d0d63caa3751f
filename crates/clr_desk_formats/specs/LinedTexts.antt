-- The text of a JSON value in lines.
use Rattle.std.specs.Prelude.{ℕ, Bool, true, false, List, [], ◌∷◌, ◌++◌}
use Rattle.json.specs.Print.{quoted}
use Rattle.serde_json.specs.Data.{Data, null, boolean, number, string, array, object, Items, no_items, item, Members, no_members, member}
use Rattle.serde_json.specs.Written.{comma_if, compact_text}
use Rattle.clr_desk_formats.specs.LineEnds.{line_end_if}

abbrev pub is_object : Data → Bool
is_object (object ms) = true
is_object _ = false

-- the text with no space, in which each object of a list begins a line, and so does the end of a list whose last item is an object
abbrev mutual
  pub lined_text : Data → List ℕ
  lined_text null = compact_text null
  lined_text (boolean b) = compact_text (boolean b)
  lined_text (number n) = compact_text (number n)
  lined_text (string s) = compact_text (string s)
  lined_text (array ds) = 91 ∷ lined_items false false ds
  lined_text (object ms) = 123 ∷ lined_members false ms

  -- with the closing bracket, where there are earlier items or none, and the last of them is an object or not
  pub lined_items : Bool → Bool → Items → List ℕ
  lined_items later behind no_items = line_end_if behind ++ 93 ∷ []
  lined_items later behind (item d ds) = comma_if later ++ (line_end_if (is_object d) ++ lined_text d ++ lined_items true (is_object d) ds)

  pub lined_members : Bool → Members → List ℕ
  lined_members later no_members = 125 ∷ []
  lined_members later (member k d ms) = comma_if later ++ (quoted k ++ 58 ∷ (lined_text d ++ lined_members true ms))
