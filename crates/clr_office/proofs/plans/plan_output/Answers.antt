use Rattle.std.proofs.Common.{◌≡◌, List, map, subst}
use Rattle.std.proofs.lemmas.Result.{IfOk-weaker}
use Rattle.clr_workspaces.specs.Marks.{Name}
use Rattle.clr_merge_sets.specs.MergeSetNames.{merge_set}
use Rattle.clr_office.specs.Outcomes.{IsPlannedFor, plan_outcome}
use Rattle.clr_office_reports.specs.Outcomes.{outcome_of}
use Rattle.clr_office_reports.specs.declared.outputs.Output.{Output}
use Rattle.clr_office.proofs.plans.plan_output.Goals as goal

pub returns : goal.returns
returns c =
    let o = c.args.office.now in
    let root = c.args.root.now in
    let names = c.args.names.now in
    let p = c.plan_for-plan.result in
    let given : map (λ text. text.now) c.as_slice.result.now ≡ names = rw c.as_slice.ensures.value c.in_ok-members.ensures in
    let again : map (λ text. text.now) c.as_slice-2.result.now ≡ names = rw c.as_slice-2.ensures.value c.in_ok-members.ensures in
    let planned : IsPlannedFor c.args.orders o (merge_set root names) p =
    subst (λ (members : List Name). IsPlannedFor c.args.orders o (merge_set root members) p) given c.plan_for-plan.ensures in
    IfOk-weaker c.output_of_plan.result _ _
    (λ (output : Output) is. (p, planned, subst (λ (members : List Name). outcome_of output o ≡ plan_outcome o (merge_set root members) p) again is))
    c.output_of_plan.ensures
