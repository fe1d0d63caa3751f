-- The broken needs of LIVE as lines.
use Rattle.std.specs.Prelude.{◌≡◌, ℕ, Bool, true, false, List, [], ◌++◌, codes, length, map, if◌then◌else◌, Option, Some, None}
use Rattle.std.specs.List.{enumerate_from, flat_map}
use Rattle.std.specs.Option.{option_map_or}
use Rattle.clr_rows.specs.declared.cells.CellId.{CellId}
use Rattle.clr_rows.specs.declared.places.Place.{Place}
use Rattle.clr_rows.specs.declared.rows.Row.{Row}
use Rattle.clr_rows.specs.declared.tables.TableDef.{TableDef}
use Rattle.clr_rows.specs.Contents.{Content, row_at}
use Rattle.clr_rules.specs.declared.needs.Broken.{Broken}
use Rattle.clr_rules.specs.declared.rules.Rule.{Rule}
use Rattle.clr_steps.specs.Offices.{Office}
use Rattle.clr_lines.specs.Pieces.{cell_text, need_text}
use Rattle.clr_lines.specs.Reports.{count_line}
use Rattle.clr_phrases.specs.Places.{place_text}
use Rattle.clr_phrases.specs.Rows.{row_words}
use Rattle.clr_old_errors.specs.RuleCounts.{is_of_rule, rule_count_text}
use Rattle.clr_desk_prints.specs.Printing.{PrintoutOrFault, printout_of}
use Rattle.clr_listed_errors.specs.declared.listed_errors.ListedError.{ListedError}
use Rattle.clr_listed_errors.specs.ListedErrors.{AreListed, is_any_unknown}

abbrev pub known_word : Bool → List ℕ
known_word true = codes "known "
known_word false = codes "unknown "

abbrev pub place_words : Option Place → List ℕ
place_words None = []
place_words (Some p) = codes " at " ++ place_text p

-- whether an error is known, its need as an audit has it, where it is, and the few words that a map would say there
abbrev pub error_line : List TableDef → ListedError → List ℕ
error_line tables e = known_word e.is_known ++ need_text tables e.need ++ place_words e.place ++ codes ": " ++ e.says ++ codes "\n"

abbrev pub told_row : List TableDef → CellId → Row → List ℕ
told_row tables cell row = codes "  " ++ cell_text tables cell ++ codes ": " ++ row_words tables cell row ++ codes "\n"

-- the row at a cell, with its values and where it is
abbrev pub row_line : List TableDef → Content → CellId → List ℕ
row_line tables live cell = option_map_or (told_row tables cell) (row_at live cell) []

abbrev pub second_line : List TableDef → Content → Option CellId → List ℕ
second_line tables live None = []
second_line tables live (Some cell) = row_line tables live cell

-- an error, and its rows
abbrev pub error_text : Office → ListedError → List ℕ
error_text o e = error_line o.schema e ++ row_line o.schema o.live e.need.first ++ second_line o.schema o.live e.need.second

-- an error of a rule, and nothing of another
abbrev pub error_of_rule : Office → ℕ → ListedError → List ℕ
error_of_rule o number e = if is_of_rule number e.need then error_text o e else []

-- of a rule that has errors: how many, its sentence, and each of them
abbrev pub rule_errors : Office → List ListedError → ℕ × Rule → List ℕ
rule_errors o errors e =
    rule_count_text o.schema (map (λ error. error.need) errors) e ++ flat_map (error_of_rule o e.0) errors

-- how many errors there are, and then each rule that has some, ascending
unfoldable pub errors_text : Office → List ListedError → List ℕ
errors_text o errors = count_line (codes "errors") (length errors) ++ flat_map (rule_errors o errors) (enumerate_from 0 o.book)

-- the errors of LIVE beside needs that are known; an error that isn't known counts as a refusal
abbrev pub IsErrorsPrint : List Broken → Office → PrintoutOrFault → Type 0
IsErrorsPrint known o print =
    (errors : List ListedError) × AreListed o known errors × (print ≡ printout_of (errors_text o errors) [] (is_any_unknown errors) false)
