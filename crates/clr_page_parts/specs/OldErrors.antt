-- The needs that a root breaks already, counted by rule, as a page tells them.
use Rattle.std.specs.Prelude.{◌==◌, ℕ, List, [], ◌∷◌, codes, count_by, decimal, length, if◌then◌else◌}
use Rattle.std.specs.List.{enumerate_from, flat_map}
use Rattle.clr_rows.specs.declared.tables.TableDef.{TableDef}
use Rattle.clr_rules.specs.declared.needs.Broken.{Broken}
use Rattle.clr_rules.specs.declared.rules.Rule.{Rule}
use Rattle.clr_rules.specs.Needs.{broken_needs}
use Rattle.clr_workspaces.specs.Marks.{Name}
use Rattle.clr_steps.specs.Offices.{Office, content_of}
use Rattle.clr_phrases.specs.Rules.{rule_sentence}
use Rattle.clr_old_errors.specs.RuleCounts.{is_of_rule}
use Rattle.clr_page_parts.specs.Shown.{Shown, Heading, Table}

-- a rule, how many needs are of it, and its sentence
abbrev pub error_row : List TableDef → ℕ → ℕ × Rule → List (List ℕ)
error_row tables count e = decimal e.0 ∷ decimal count ∷ rule_sentence tables e.1 ∷ []

-- the row of a rule that some needs are of, and nothing of another
abbrev pub error_rows : List TableDef → List Broken → ℕ × Rule → List (List (List ℕ))
error_rows tables needs e = let count = count_by (is_of_rule e.0) needs in if count == 0 then [] else error_row tables count e ∷ []

abbrev pub error_heads : List (List ℕ)
error_heads = codes "Rule" ∷ codes "Errors" ∷ codes "What it asks for" ∷ []

-- a row for each rule of a book that some needs are of, ascending
abbrev pub rows_of_errors : List TableDef → List Rule → List Broken → List (List (List ℕ))
rows_of_errors tables book needs = flat_map (error_rows tables needs) (enumerate_from 0 book)

-- the table of some needs below a heading
abbrev pub errors_section : List TableDef → List Rule → List Broken → List Shown
errors_section tables book needs = Heading (codes "Old errors") ∷ Table error_heads (rows_of_errors tables book needs) ∷ []

-- a section of some needs, and none where there are none
abbrev pub errors_shown : List TableDef → List Rule → List Broken → List (List Shown)
errors_shown tables book needs = if length needs == 0 then [] else errors_section tables book needs ∷ []

-- the needs that a root breaks
abbrev pub old_errors_shown : Office → Name → List (List Shown)
old_errors_shown o root = errors_shown o.schema o.book (broken_needs o.book (content_of o root))
