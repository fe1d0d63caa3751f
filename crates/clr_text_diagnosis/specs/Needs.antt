-- Needs that no row serves, in words.
use Rattle.std.specs.Prelude.{ℕ, zero, suc, List, [], ◌++◌, codes, length, Option, Some, None, slice_get}
use Rattle.clr_rules.specs.declared.needs.Broken.{Broken}
use Rattle.clr_rules.specs.declared.rules.Rule.{Rule}
use Rattle.clr_rows.specs.declared.tables.TableDef.{TableDef}
use Rattle.clr_phrases.specs.Rules.{rule_sentence}
use Rattle.clr_lines.specs.Reports.{count_line, unheld_text}
use Rattle.clr_old_errors.specs.RuleCounts.{rule_counts_text}
use Rattle.clr_steps.specs.Offices.{Office}
use Rattle.clr_steps.specs.Readings.{name_at}
use Rattle.clr_workspaces.specs.Marks.{Name}

-- what a rule asks for, as a line
abbrev pub rule_line : List TableDef → Option Rule → List ℕ
rule_line tables None = []
rule_line tables (Some r) = rule_sentence tables r ++ codes "\n"

-- the name of the workspace at a position, and none of LIVE
abbrev pub name_under_live : Office → ℕ → Option Name
name_under_live o zero = None
name_under_live o (suc position) = name_at o (suc position)

-- what can be done about a need that is broken and isn't known
abbrev pub unknown_words : List ℕ
unknown_words = codes "This error isn't known: mend it, or accept all that is broken now, by `clr_desk accept`.\n"

-- the line of a need that no row serves, what its rule asks for, and what can be done
abbrev pub unheld_lines : Office → ℕ → Broken → List ℕ
unheld_lines o position need =
    unheld_text o.schema (name_under_live o position) need ++ rule_line o.schema (slice_get o.book need.rule) ++ unknown_words

-- how many old errors there are, in all and of each rule that has some, and what lists them
abbrev pub old_error_lines : Office → List Broken → List ℕ
old_error_lines o needs =
    count_line (codes "old errors") (length needs) ++ rule_counts_text o.schema o.book needs ++ codes "`clr_desk errors` lists those of LIVE.\n"
