-- What is wrong with the known needs of a rule that can't be read.
use Rattle.std.specs.Prelude.{ℕ, List, [], ◌++◌, ◌&&◌, ◌||◌, ◌==◌, codes, length, Bool, false, Option, Some, None, is_some, if◌then◌else◌}
use Rattle.std.specs.List.{list_all}
use Rattle.std.specs.Option.{option_or}
use Rattle.std.specs.Str.{bytes_eq}
use Rattle.serde_json.specs.Data.{Data, Items}
use Rattle.serde_json.specs.Find.{as_array}
use Rattle.clr_rule_text.specs.declared.formats.Format.{Format}
use Rattle.clr_rule_text.specs.declared.formats.Format.TheVariants.{First, Second, Third, Fourth}
use Rattle.clr_text_positions.specs.declared.paths.Key.TheVariants as key
use Rattle.clr_item_explanations.specs.declared.fields.Wanted.TheVariants as wanted
use Rattle.clr_item_explanations.specs.Fields.{wrong_field}
use Rattle.clr_item_explanations.specs.Tellings.{OfValue, Wrong, itself, wrong_in_list}
use Rattle.clr_item_explanations.specs.Values.{listed, whole_number}

-- how many numbers the name of a need has in a rule of a kind
abbrev pub is_count : List ℕ → ℕ → Bool
is_count kind count =
    if bytes_eq kind (codes "PARTNER") || bytes_eq kind (codes "ENDNODE") then count == 1
    else (if bytes_eq kind (codes "CROSSING") then count == 2 || count == 4
    else count == 2)

-- what it names
abbrev pub name_words : List ℕ → List ℕ
name_words kind =
    if bytes_eq kind (codes "PARTNER") || bytes_eq kind (codes "ENDNODE") then codes "a list of the key of one row"
    else (if bytes_eq kind (codes "CROSSING") then codes "a list of the keys of two rows, or of these and a part of each"
    else codes "a list of the keys of two rows")

abbrev pub are_numbers : List ℕ → List Data → Bool
are_numbers kind ds = is_count kind (length ds) && list_all (λ d. is_some (whole_number d)) ds

-- as many whole numbers as the name of a need has
abbrev pub is_name : List ℕ → Option Items → Bool
is_name kind None = false
is_name kind (Some items) = are_numbers kind (listed items)

unfoldable pub wrong_name : List ℕ → Data → Option Wrong
wrong_name kind d = if is_name kind (as_array d) then None else Some (itself (OfValue [] d (codes " isn't " ++ name_words kind)))

-- the known needs of a rule of a kind, which formats 1 to 3 don't have
abbrev pub wrong_known : Format → List ℕ → Data → Option Wrong
wrong_known First kind d = None
wrong_known Second kind d = None
wrong_known Third kind d = None
wrong_known Fourth kind d = option_or (wrong_field key.Known wanted.OptionalList d) (wrong_in_list key.Known (λ at name. wrong_name kind name) d)
