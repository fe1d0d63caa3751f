use Rattle.std.proofs.Common.{◌∙◌, List, map, subst₂}
use Rattle.clr_workspaces.specs.Marks.{Name}
use Rattle.clr_merge_sets.specs.MergeSetNames.{merge_set}
use Rattle.clr_plan.proofs.OnePlanLemmas.{one_plan}
use Rattle.clr_work_orders.specs.Trials.{IsInShort}
use Rattle.clr_work_orders.proofs.answers.answer_of.Goals as goal

pub plan_changes-planned-requires : goal.plan_changes-planned-requires
plan_changes-planned-requires c = c.as_slice.ensures.value ∙ c.in_ok-members.ensures.members.changes

pub returns : goal.returns
returns c =
    let o = c.args.office.now in
    let s = merge_set c.args.root.now (map (λ name. name.now) c.args.names.now) in
    let p = c.plan_changes-planned.result in
    let read = c.in_ok-members.ensures in
    let told = c.in_ok-answer.answer in
    let short = c.in_ok-answer.ensures in
    record {
      made = p;
      answered = record {
        plan = c.plan_changes-planned.ensures.plan;
        promises = c.plan_changes-planned.ensures.promises;
        exact = c.plan_changes-planned.ensures.exact;
      };
      alike = λ q is there. one_plan o s p q c.plan_changes-planned.ensures.plan is short.found there;
      short = subst₂ (λ (names : List Name) (root : Name). IsInShort o (merge_set root names) p told) read.names read.members.root short;
    }
