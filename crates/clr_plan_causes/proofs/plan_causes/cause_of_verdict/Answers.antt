use Rattle.std.proofs.Common.{◌∷◌, [], ℕ, List, Option, subst₂}
use Rattle.clr_rows.specs.declared.tables.TableDef.{TableDef}
use Rattle.clr_rows.specs.Contents.{Changes}
use Rattle.clr_steps.specs.Quiet.{MergeSet}
use Rattle.clr_clearance.specs.declared.verdicts.Verdict.TheVariants as verdict
use Rattle.clr_merge_sets.specs.MemberChanges.{AreMembers}
use Rattle.clr_map_scenes.specs.declared.shown_causes.Cause.{Cause}
use Rattle.clr_plan_causes.specs.Badges.{conflict_words, shared_words}
use Rattle.clr_plan_causes.specs.PlanCauses.{Finds, IsCellCause, IsVerdictCause}
use Rattle.clr_plan_causes.proofs.CauseLemmas.{found_with}
use Rattle.clr_plan_causes.proofs.plan_causes.cause_of_verdict.Goals as goal

pub returns-in-Conflict : goal.returns-in-Conflict
returns-in-Conflict c =
    let o = c.args.office.now in
    let members = c.args.members.now in
    let q = c.in-Conflict.cell in
    let at = c.in-Conflict.member in
    rw c.in-Conflict.is
    (found_with (Finds (IsCellCause members.changes.items q (at ∷ []) (conflict_words members.root.now)))
    (λ (found : Option Cause). (s : MergeSet) → AreMembers o s members → IsVerdictCause o s (verdict.Conflict at q c.in-Conflict.count) found)
    c.conflict_cause.result
    (λ found is s are. subst₂ (λ (sets : List Changes) (root : List ℕ). Finds
    (IsCellCause sets q (at ∷ []) (conflict_words root)) found) are.changes are.root is)
    c.conflict_cause.ensures)

pub returns-in-SharedCell : goal.returns-in-SharedCell
returns-in-SharedCell c =
    let o = c.args.office.now in
    let members = c.args.members.now in
    let q = c.in-SharedCell.cell in
    let first = c.in-SharedCell.first in
    let second = c.in-SharedCell.second in
    rw c.in-SharedCell.is
    (found_with (Finds (IsCellCause members.changes.items q (first ∷ second ∷ []) (shared_words c.schema.result.now q)))
    (λ (found : Option Cause). (s : MergeSet) → AreMembers o s members → IsVerdictCause o s (verdict.SharedCell q first second) found)
    c.shared_cause.result
    (λ found is s are. subst₂ (λ (sets : List Changes) (tables : List TableDef). Finds (IsCellCause sets q (first ∷ second ∷ []) (shared_words tables q)) found)
    are.changes c.schema.ensures.value is) c.shared_cause.ensures)
