-- What the cause of a plan is about.
use Rattle.std.specs.Prelude.{◌≡◌, ◌∷◌, ℕ, List, [], length, Option, Some, None, string_bytes}
use Rattle.clr_rows.specs.declared.cells.CellId.{CellId}
use Rattle.clr_rows.specs.Contents.{Changes}
use Rattle.clr_rules.specs.declared.rules.Rule.{Rule}
use Rattle.clr_needs.specs.declared.needs.Need.{Need}
use Rattle.clr_steps.specs.Offices.{Office}
use Rattle.clr_steps.specs.Quiet.{MergeSet}
use Rattle.clr_clearance.specs.declared.verdicts.Verdict.{Verdict}
use Rattle.clr_clearance.specs.declared.verdicts.Verdict.TheVariants as verdict
use Rattle.clr_clearance.specs.MergeSets.{change_sets}
use Rattle.clr_merge_sets.specs.declared.plans.Plan.{Plan}
use Rattle.clr_merge_sets.specs.declared.plans.Plan.TheVariants as plan
use Rattle.clr_serving_rows.specs.NeedPlaces.{rule_in}
use Rattle.clr_serving_rows.specs.Servers.{server_changes}
use Rattle.clr_map_scenes.specs.declared.shown_causes.Cause.{Cause}
use Rattle.clr_plan_causes.specs.Badges.{badge_words, conflict_words, shared_words}
use Rattle.clr_plan_causes.specs.CauseMarks.{IsMark, middle_of_first, ring_at}
use Rattle.clr_plan_causes.specs.CauseRows.{contested_rows, goers_among, subject_rows}

-- a need that nothing covers under a rule
pub record IsNeedCause (o : Office) (s : MergeSet) (need : Need) (rule : Rule) (c : Cause) : Type 0 where
  pub rows : c.rows.items ≡ subject_rows o s need
  pub goers : c.goers.items ≡ goers_among (change_sets o s) (server_changes o s need)
  pub marked : IsMark o s need rule c.rows.items c.mark
  pub says : string_bytes c.says ≡ badge_words o.schema rule c.mark (length c.goers.items)

-- a cell at which designs meet one another or the root
pub record IsCellCause (sets : List Changes) (q : CellId) (designs : List ℕ) (words : List ℕ) (c : Cause) : Type 0 where
  pub rows : c.rows.items ≡ contested_rows sets q designs
  pub goers : c.goers.items ≡ []
  pub marked : c.mark ≡ ring_at (middle_of_first c.rows.items)
  pub says : string_bytes c.says ≡ words

abbrev pub Finds : (Cause → Type 0) → Option Cause → Type 0
Finds P found = (c : Cause) × (found ≡ Some c) × P c

abbrev pub IsCauseUnder : Office → MergeSet → Need → Option Rule → Option Cause → Type 0
IsCauseUnder o s need None found = found ≡ None
IsCauseUnder o s need (Some rule) found = Finds (IsNeedCause o s need rule) found

-- a need, a cell that a member and the root change, or one that two members change; no other verdict blocks
abbrev pub IsVerdictCause : Office → MergeSet → Verdict → Option Cause → Type 0
IsVerdictCause o s (verdict.Uncovered need) found = IsCauseUnder o s need (rule_in o need) found
IsVerdictCause o s (verdict.Conflict member q count) found = Finds (IsCellCause (change_sets o s) q (member ∷ []) (conflict_words s.root)) found
IsVerdictCause o s (verdict.SharedCell q first second) found = Finds (IsCellCause (change_sets o s) q (first ∷ second ∷ []) (shared_words o.schema q)) found
IsVerdictCause o s _ found = found ≡ None

-- what the cause of a plan is about; only a blocked plan has one
abbrev pub IsCauseOf : Office → MergeSet → Plan → Option Cause → Type 0
IsCauseOf o s (plan.Blocked order cause) found = IsVerdictCause o s cause found
IsCauseOf o s (plan.Cleared c) found = found ≡ None
IsCauseOf o s (plan.Unfit v) found = found ≡ None
IsCauseOf o s plan.OutOfMemory found = found ≡ None

-- the members that the cause of a plan names, in the order in which a merge of them is refused
abbrev pub leaders_of : Plan → List ℕ
leaders_of (plan.Blocked order cause) = order.items
leaders_of (plan.Cleared c) = []
leaders_of (plan.Unfit v) = []
leaders_of plan.OutOfMemory = []
