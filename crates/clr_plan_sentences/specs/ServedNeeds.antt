-- A need in words, and what serves it until when.
use Rattle.std.specs.Prelude.{ℕ, List, [], ◌++◌, Option, Some, None, codes}
use Rattle.clr_rows.specs.declared.tables.TableDef.{TableDef}
use Rattle.clr_rows.specs.Contents.{Changes}
use Rattle.clr_rules.specs.declared.rules.Rule.{Rule}
use Rattle.clr_needs.specs.declared.needs.VersionId.{VersionId}
use Rattle.clr_cert.specs.declared.certificates.Entry.{Entry}
use Rattle.clr_workspaces.specs.Marks.{Name}
use Rattle.clr_steps.specs.Offices.{Office}
use Rattle.clr_phrases.specs.Rules.{rule_title}
use Rattle.clr_plan_sentences.specs.declared.served_needs.NeedWords.{NeedWords}
use Rattle.clr_plan_sentences.specs.Changers.{changer_name}
use Rattle.clr_plan_sentences.specs.Labels.{cell_label}
use Rattle.clr_plan_sentences.specs.NeedCauses.{numbered_text}
use Rattle.clr_serving_rows.specs.NeedPlaces.{rule_in}

-- what a rule is about, if there is one
abbrev pub title_text : Option Rule → List ℕ
title_text None = []
title_text (Some rule) = rule_title rule

-- the second row that asks, if there is one
abbrev pub second_subject_text : List TableDef → Option VersionId → List ℕ
second_subject_text tables None = []
second_subject_text tables (Some v) = codes " and " ++ cell_label tables v.cell

-- the row that serves once the member that brings it is merged, if there is one
abbrev pub later_text : List TableDef → List Name → List Changes → Option VersionId → List ℕ
later_text tables members sets None = []
later_text tables members sets (Some v) =
    codes " until " ++ changer_name members sets v.cell ++ codes " is merged, and then by " ++ cell_label tables v.cell

-- the rule of a need, the rows that ask, and the rows that serve it
abbrev pub told_need : Office → List Name → List Changes → Entry → NeedWords
told_need o members sets e = record {
  rule = numbered_text e.need.rule (title_text (rule_in o e.need));
  rows = cell_label o.schema e.need.first.cell ++ second_subject_text o.schema e.need.second;
  servers = cell_label o.schema e.one.cell ++ later_text o.schema members sets e.two;
}
