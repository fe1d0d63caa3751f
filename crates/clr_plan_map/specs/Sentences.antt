-- A plan in a sentence or two.
use Rattle.std.specs.Prelude.{ℕ, ◌==◌, List, [], ◌∷◌, ◌++◌, Option, Some, None, codes, length, if◌then◌else◌}
use Rattle.std.specs.Fmt.{decimal}
use Rattle.clr_rows.specs.declared.tables.TableDef.{TableDef}
use Rattle.clr_rows.specs.Contents.{Changes}
use Rattle.clr_rules.specs.declared.rules.Rule.{Rule}
use Rattle.clr_needs.specs.declared.needs.Need.{Need}
use Rattle.clr_workspaces.specs.Marks.{Name}
use Rattle.clr_steps.specs.Offices.{Office}
use Rattle.clr_steps.specs.Quiet.{MergeSet}
use Rattle.clr_clearance.specs.declared.verdicts.Verdict.{Verdict}
use Rattle.clr_clearance.specs.declared.verdicts.Verdict.TheVariants as verdict
use Rattle.clr_merge_sets.specs.declared.plans.Plan.{Plan}
use Rattle.clr_merge_sets.specs.declared.plans.Plan.TheVariants as plan
use Rattle.clr_phrases.specs.Rules.{rule_sentence}
use Rattle.clr_plan_answers.specs.Answers.{order_text, unfit_text}
use Rattle.clr_plan_sentences.specs.Causes.{reason_text}
use Rattle.clr_plan_sentences.specs.OldErrors.{old_text}
use Rattle.clr_serving_rows.specs.NeedPlaces.{rule_in}

-- lines as one line --------------------------------------------------------------------------------

-- what stands in place of a line end before the rest of a text
abbrev pub end_before : List ℕ → List ℕ
end_before [] = []
end_before (b ∷ rest) = codes " "

-- what stands in place of a byte before the rest: a line end is the byte 10
abbrev pub byte_before : ℕ → List ℕ → List ℕ
byte_before b rest = if b == 10 then end_before rest else b ∷ []

-- a text on one line: a space for each line end, and nothing for one at the end of the text
abbrev pub one_line : List ℕ → List ℕ
one_line [] = []
one_line (b ∷ rest) = byte_before b rest ++ one_line rest

-- a text behind a line, on the same line, after a space; no text adds nothing
abbrev pub behind_line : List ℕ → List ℕ
behind_line text = end_before text ++ one_line text

-- what is cleared ----------------------------------------------------------------------------------

abbrev pub looked_text : ℕ → List ℕ
looked_text needs = decimal needs ++ (if needs == 1 then codes " need was looked at." else codes " needs were looked at.")

abbrev pub several_text : ℕ → List ℕ
several_text count = codes "These " ++ decimal count ++ codes " designs can be merged in any order, all or some of them; "

-- so many members can be merged
abbrev pub mergeable_text : ℕ → List ℕ
mergeable_text count = if count == 1 then codes "This design can be merged; " else several_text count

-- of so many members and so many needs
abbrev pub cleared_sentence : ℕ → ℕ → List ℕ
cleared_sentence count needs = if count == 0 then codes "No design is named." else mergeable_text count ++ looked_text needs

-- what is refused ----------------------------------------------------------------------------------

abbrev pub alone_text : List Name → List ℕ → List ℕ
alone_text members order = codes "Already " ++ order_text members order ++ codes " alone, merged now, is refused. "

abbrev pub in_order_text : List Name → List ℕ → List ℕ
in_order_text members order = codes "Merged in the order " ++ order_text members order ++ codes ", one merge is refused. "

-- one member by itself, or several in an order
abbrev pub order_sentence : List Name → List ℕ → List ℕ
order_sentence members order = if length order == 1 then alone_text members order else in_order_text members order

-- a rule as a sentence, behind its number
abbrev pub rule_line : List TableDef → ℕ → Rule → List ℕ
rule_line tables number rule = codes "Rule " ++ decimal number ++ codes ": " ++ rule_sentence tables rule

-- the rule of a need, if the book has it; and behind it that the need is an old error, if it is one
abbrev pub need_sentence : Office → MergeSet → List Changes → Need → Option Rule → List ℕ
need_sentence o s sets need None = []
need_sentence o s sets need (Some rule) = rule_line o.schema need.rule rule ++ behind_line (old_text o s sets need)

-- why a merge of members that make these changes is refused: the rule that nothing serves, or which row is changed twice
abbrev pub cause_sentence : Office → MergeSet → List Changes → Verdict → List ℕ
cause_sentence o s sets (verdict.Uncovered need) = need_sentence o s sets need (rule_in o need)
cause_sentence o s sets (verdict.Conflict member q count) = one_line (reason_text o s (verdict.Conflict member q count))
cause_sentence o s sets (verdict.SharedCell q first second) = one_line (reason_text o s (verdict.SharedCell q first second))
cause_sentence o s sets _ = []

-- the whole ----------------------------------------------------------------------------------------

-- of a plan of members that make these changes: that they can be merged; or in which order a merge is refused, and why; or which name has to be mended
abbrev pub plan_sentence : Office → MergeSet → List Changes → Plan → List ℕ
plan_sentence o s sets (plan.Cleared c) = cleared_sentence (length s.members) (length c.entries)
plan_sentence o s sets (plan.Blocked order v) = order_sentence s.members order.items ++ cause_sentence o s sets v
plan_sentence o s sets (plan.Unfit v) = one_line (unfit_text s v)
plan_sentence o s sets plan.OutOfMemory = codes "No memory was found."
