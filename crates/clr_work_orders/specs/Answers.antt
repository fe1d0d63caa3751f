-- Why a plan isn't cleared, in short.
use Rattle.std.specs.Prelude.{ℕ, List, [], ◌++◌, codes}
use Rattle.clr_rows.specs.declared.tables.TableDef.{TableDef}
use Rattle.clr_steps.specs.Offices.{Office}
use Rattle.clr_steps.specs.Quiet.{MergeSet}
use Rattle.clr_clearance.specs.declared.verdicts.Verdict.{Verdict}
use Rattle.clr_clearance.specs.declared.verdicts.Verdict.TheVariants as verdict
use Rattle.clr_merge_sets.specs.declared.plans.Plan.{Plan}
use Rattle.clr_merge_sets.specs.declared.plans.Plan.TheVariants as plan
use Rattle.clr_plan_sentences.specs.Causes.{reason_text}
use Rattle.clr_plan_sentences.specs.Labels.{cell_label}
use Rattle.clr_plan_sentences.specs.ServedNeeds.{second_subject_text}

-- the rows that ask, if a verdict is on a need, before why it is so; a sentence on any other has its row
abbrev pub rows_front : List TableDef → Verdict → List ℕ
rows_front tables (verdict.Uncovered need) = cell_label tables need.first.cell ++ second_subject_text tables need.second ++ codes ": "
rows_front tables _ = []

-- why members are blocked, with the rows, on a line
abbrev pub cause_note : Office → MergeSet → Verdict → List ℕ
cause_note o s v = rows_front o.schema v ++ reason_text o s v

-- why a plan isn't cleared, on a line; nothing of one that is
abbrev pub why_not : Office → MergeSet → Plan → List ℕ
why_not o s (plan.Cleared c) = []
why_not o s (plan.Blocked order v) = cause_note o s v
why_not o s (plan.Unfit v) = codes "A name has to be mended first.\n"
why_not o s plan.OutOfMemory = []
