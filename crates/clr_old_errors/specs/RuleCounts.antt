-- How many of some broken needs are of each rule, in words.
use Rattle.std.specs.Prelude.{ℕ, ◌==◌, Bool, List, [], ◌++◌, codes, count_by, if◌then◌else◌}
use Rattle.std.specs.Fmt.{decimal}
use Rattle.std.specs.List.{enumerate_from, flat_map}
use Rattle.clr_rows.specs.declared.tables.TableDef.{TableDef}
use Rattle.clr_rules.specs.declared.needs.Broken.{Broken}
use Rattle.clr_rules.specs.declared.rules.Rule.{Rule}
use Rattle.clr_phrases.specs.Rules.{rule_sentence}

abbrev pub is_of_rule : ℕ → Broken → Bool
is_of_rule number need = need.rule == number

-- a count of needs, and the rule that they are of, on a line
abbrev pub counted_rule : List TableDef → ℕ → ℕ × Rule → List ℕ
counted_rule tables count e = decimal count ++ codes " of rule " ++ decimal e.0 ++ codes ": " ++ rule_sentence tables e.1 ++ codes "\n"

-- how many of some needs are of a rule, and nothing where none is
abbrev pub rule_count_text : List TableDef → List Broken → ℕ × Rule → List ℕ
rule_count_text tables needs e =
    let count = count_by (is_of_rule e.0) needs in if count == 0 then [] else counted_rule tables count e

-- how many of some needs are of each rule that has one of them, ascending
unfoldable pub rule_counts_text : List TableDef → List Rule → List Broken → List ℕ
rule_counts_text tables book needs = flat_map (rule_count_text tables needs) (enumerate_from 0 book)
