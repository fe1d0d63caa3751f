-- The cause of a no in words.
use Rattle.std.specs.Prelude.{◌≡◌, ℕ, List, [], ◌∷◌, ◌++◌, codes, nat_lt, Option, Some, None, if◌then◌else◌}
use Rattle.std.specs.Fmt.{decimal}
use Rattle.clr_rows.specs.declared.cells.CellId.{CellId}
use Rattle.clr_rows.specs.declared.tables.TableDef.{TableDef}
use Rattle.clr_rows.specs.Contents.{Changes}
use Rattle.clr_rules.specs.declared.rules.Rule.{Rule}
use Rattle.clr_steps.specs.Offices.{Office}
use Rattle.clr_steps.specs.Quiet.{MergeSet}
use Rattle.clr_clearance.specs.declared.verdicts.Verdict.{Verdict}
use Rattle.clr_clearance.specs.declared.verdicts.Verdict.TheVariants as verdict
use Rattle.clr_member_changes.specs.Names.{member_name}
use Rattle.clr_plan_sentences.specs.declared.told_rows.CauseWords.{CauseWords}
use Rattle.clr_plan_sentences.specs.Labels.{cell_label}
use Rattle.clr_plan_sentences.specs.NeedCauses.{IsNeedCause, no_cause, rule_reason}
use Rattle.clr_serving_rows.specs.NeedPlaces.{rule_in}
use Rattle.clr_plan_sentences.specs.ToldRows.{row_now, row_of_member, row_taken_over}

abbrev pub counted_text : ℕ → List ℕ
counted_text count = codes ", and so were others: " ++ decimal count ++ codes " rows in all"

-- how many rows are in conflict, if more than one is
abbrev pub others_text : ℕ → List ℕ
others_text count = if nat_lt 1 count then counted_text count else []

-- a cell was changed in the root after a member took it over
abbrev pub conflict_reason : Office → MergeSet → CellId → ℕ → ℕ → List ℕ
conflict_reason o s q member count =
    cell_label o.schema q ++ codes " was changed in " ++ s.root ++ codes " after " ++ member_name s.members member ++ codes " took it over"
    ++ others_text count ++ codes ".\n"

-- two members change a cell
abbrev pub shared_reason : Office → MergeSet → CellId → ℕ → ℕ → List ℕ
shared_reason o s q first second =
    member_name s.members first ++ codes " and " ++ member_name s.members second ++ codes " both change " ++ cell_label o.schema q
    ++ codes ", so that the merge of the second would meet a conflict.\n"

-- a cell in conflict, with the row that the member took over, the one that the root has now, and the one that the member has
abbrev pub conflict_cause : Office → MergeSet → List Changes → CellId → ℕ → ℕ → CauseWords
conflict_cause o s sets q member count = record {
  reason = conflict_reason o s q member count;
  rows = row_taken_over o s sets q member ∷ row_now o s q ∷ row_of_member o s sets q member ∷ [];
  place = [];
}

-- a cell that two members change, with the row that the root has now, and the one that each member has
abbrev pub shared_cause : Office → MergeSet → List Changes → CellId → ℕ → ℕ → CauseWords
shared_cause o s sets q first second = record {
  reason = shared_reason o s q first second;
  rows = row_now o s q ∷ row_of_member o s sets q first ∷ row_of_member o s sets q second ∷ [];
  place = [];
}

-- why members that make these changes are blocked; nothing is told of a verdict that blocks none
abbrev pub IsCause : Office → MergeSet → List Changes → Verdict → CauseWords → Type 0
IsCause o s sets (verdict.Conflict member q count) cause = cause ≡ conflict_cause o s sets q member count
IsCause o s sets (verdict.SharedCell q first second) cause = cause ≡ shared_cause o s sets q first second
IsCause o s sets (verdict.Uncovered need) cause = IsNeedCause o s sets need (rule_in o need) cause
IsCause o s sets _ cause = cause ≡ no_cause

-- the rule that nothing serves, if the book has one of its number
abbrev pub need_reason : List TableDef → ℕ → Option Rule → List ℕ
need_reason tables number None = []
need_reason tables number (Some rule) = rule_reason tables number rule

-- why members are blocked, without the rows
abbrev pub reason_text : Office → MergeSet → Verdict → List ℕ
reason_text o s (verdict.Conflict member q count) = conflict_reason o s q member count
reason_text o s (verdict.SharedCell q first second) = shared_reason o s q first second
reason_text o s (verdict.Uncovered need) = need_reason o.schema need.rule (rule_in o need)
reason_text o s _ = []
