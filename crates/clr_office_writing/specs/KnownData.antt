-- Needs that are known to be broken, as JSON.
use Rattle.std.specs.Prelude.{ℕ, ℤ, pos, List, [], ◌∷◌, ◌&&◌, ◌==◌, codes, filter, Option, Some, None, if◌then◌else◌}
use Rattle.json.specs.Token.{Token, key}
use Rattle.serde_json.specs.Data.{Data, Members, member}
use Rattle.clr_rows.specs.declared.cells.CellId.{CellId}
use Rattle.clr_rules.specs.declared.needs.Broken.{Broken}
use Rattle.clr_office_writing.specs.Tokens.{tokens_of}
use Rattle.clr_office_writing.specs.Values.{list_data, number_data}

-- the part of each row, where one isn't the first
abbrev pub part_numbers : Broken → List ℤ
part_numbers b = if b.first_part == 1 && b.second_part == 1 then [] else pos b.first_part ∷ pos b.second_part ∷ []

abbrev pub second_numbers : Broken → Option CellId → List ℤ
second_numbers b None = []
second_numbers b (Some cell) = cell.key ∷ part_numbers b

-- the key of the row of a need; or the keys of both rows, and then the parts
abbrev pub need_numbers : Broken → List ℤ
need_numbers b = b.first.key ∷ second_numbers b b.second

abbrev pub need_data : Broken → Data
need_data b = list_data number_data (need_numbers b)

-- the known needs of the rule of a number, where any rule has some
abbrev pub known_of_rule : List Broken → ℕ → Option (List Broken)
known_of_rule [] number = None
known_of_rule (b ∷ bs) number = Some (filter (λ c. c.rule == number) (b ∷ bs))

-- the tokens of these needs with their key
abbrev pub known_tokens : Option (List Broken) → List Token
known_tokens None = []
known_tokens (Some needs) = key (codes "known") ∷ tokens_of (list_data need_data needs)

-- the members of a rule with its known needs before them, where it has a list of these
abbrev pub with_known : Option (List Broken) → Members → Members
with_known None ms = ms
with_known (Some needs) ms = member (codes "known") (list_data need_data needs) ms
