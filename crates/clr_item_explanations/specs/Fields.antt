-- What is wrong with the fields of an object.
use Rattle.std.specs.Prelude.{ℕ, List, [], ◌∷◌, ◌++◌, codes, Bool, true, false, ◌||◌, Option, Some, None, is_some, if◌then◌else◌}
use Rattle.std.specs.Option.{option_map_or}
use Rattle.serde_json.specs.Data.{Data, Items}
use Rattle.serde_json.specs.Find.{as_array, as_bool, as_object, as_str}
use Rattle.clr_text_positions.specs.Keys.{key_text}
use Rattle.clr_text_positions.specs.declared.paths.Key.{Key}
use Rattle.clr_text_positions.specs.declared.paths.PathStep.TheVariants as step
use Rattle.clr_item_explanations.specs.declared.fields.Wanted.{Wanted}
use Rattle.clr_item_explanations.specs.declared.fields.Wanted.TheVariants as wanted
use Rattle.clr_item_explanations.specs.Tellings.{OfCoordinate, OfValue, OfWord, Plain, Wrong, below, first_wrong, itself}
use Rattle.clr_item_explanations.specs.Values.{listed, stands_among, value_at, whole_number}

-- whether a value may stand there
abbrev pub admits : Wanted → Data → Bool
admits wanted.Text d = is_some (as_str d)
admits wanted.WholeNumber d = is_some (whole_number d)
admits wanted.Value d = is_some (as_str d) || is_some (whole_number d)
admits wanted.List d = is_some (as_array d)
admits wanted.OptionalList d = is_some (as_array d)
admits wanted.OptionalFlag d = is_some (as_bool d)
admits wanted.Object d = is_some (as_object d)

abbrev pub is_optional : Wanted → Bool
is_optional wanted.Text = false
is_optional wanted.WholeNumber = false
is_optional wanted.Value = false
is_optional wanted.List = false
is_optional wanted.OptionalList = true
is_optional wanted.OptionalFlag = true
is_optional wanted.Object = false

-- what must stand there, with its article
abbrev pub wanted_text : Wanted → List ℕ
wanted_text wanted.Text = codes "a text"
wanted_text wanted.WholeNumber = codes "a whole number of 64 bits"
wanted_text wanted.Value = codes "a text or a whole number of 64 bits"
wanted_text wanted.List = codes "a list"
wanted_text wanted.OptionalList = codes "a list"
wanted_text wanted.OptionalFlag = codes "true or false"
wanted_text wanted.Object = codes "an object"

-- a value isn't what must stand there
unfoldable pub wrong_value : Wanted → Data → Option Wrong
wrong_value w d = if admits w d then None else Some (itself (OfValue [] d (codes " isn't " ++ wanted_text w)))

-- a coordinate is no whole number
unfoldable pub wrong_coordinate : Data → Option Wrong
wrong_coordinate d = if is_some (whole_number d) then None else Some (itself (OfCoordinate d))

-- a key is missing at which something must stand
unfoldable pub missing : Key → Wanted → Option Wrong
missing k w =
    if is_optional w then None
    else Some (itself (Plain (codes "the key '" ++ key_text k ++ codes "' is missing; " ++ wanted_text w ++ codes " stands there")))

-- what is wrong with the value at a key, or what is wrong where none stands there
unfoldable pub wrong_at : Key → (Data → Option Wrong) → Option Wrong → Data → Option Wrong
wrong_at k f otherwise d = option_map_or (λ value. below (step.Key k ∷ []) (f value)) (value_at k d) otherwise

-- a key is missing, or its value isn't what must stand there
unfoldable pub wrong_field : Key → Wanted → Data → Option Wrong
wrong_field k w d = wrong_at k (wrong_value w) (missing k w) d

-- the first of these fields with which anything is wrong
unfoldable pub wrong_fields : List (Key × Wanted) → Data → Option Wrong
wrong_fields fields d = first_wrong (λ field. wrong_field field.0 field.1 d) fields

-- a text is none of these words, and what is no text isn't one
abbrev pub unknown_word : List (List ℕ) → Option (List ℕ) → Option Wrong → Option Wrong
unknown_word words None no_text = no_text
unknown_word words (Some word) no_text = if stands_among words word then None else Some (itself (OfWord word words))

unfoldable pub wrong_word : List (List ℕ) → Data → Option Wrong
wrong_word words d = unknown_word words (as_str d) (wrong_value wanted.Text d)

unfoldable pub wrong_word_at : Key → List (List ℕ) → Data → Option Wrong
wrong_word_at k words d = wrong_at k (wrong_word words) (missing k wanted.Text) d

-- two values are each right, the first of them first; a list of more or fewer is no pair
abbrev pub wrong_pair : List ℕ → (Data → Data → Option Wrong) → Data → List Data → Option Wrong
wrong_pair of f d (one ∷ other ∷ []) = f one other
wrong_pair of f d _ = Some (itself (OfValue [] d (codes " is no pair of " ++ of)))

abbrev pub wrong_pair_in : List ℕ → (Data → Data → Option Wrong) → Data → Option Items → Option Wrong
wrong_pair_in of f d None = wrong_value wanted.List d
wrong_pair_in of f d (Some items) = wrong_pair of f d (listed items)

-- a value is no list of two, or one of the two isn't right
unfoldable pub wrong_as_pair : List ℕ → (Data → Data → Option Wrong) → Data → Option Wrong
wrong_as_pair of f d = wrong_pair_in of f d (as_array d)
