use Rattle.std.proofs.Common.{◌∙◌, List, subst₂}
use Rattle.clr_workspaces.specs.Marks.{Name}
use Rattle.clr_merge_sets.specs.MergeSetNames.{merge_set}
use Rattle.clr_work_orders.specs.Trials.{IsInShort}
use Rattle.clr_work_orders.proofs.answers.answer_of_order.Goals as goal

pub plan_changes_in_order-planned-requires : goal.plan_changes_in_order-planned-requires
plan_changes_in_order-planned-requires c = c.as_slice.ensures.value ∙ c.in_ok-members.ensures.members.changes

pub returns : goal.returns
returns c =
    let o = c.args.office.now in
    let p = c.plan_changes_in_order-planned.result in
    let read = c.in_ok-members.ensures in
    let told = c.in_ok-answer.answer in
    record {
      made = p;
      answered = record {
        plan = c.plan_changes_in_order-planned.ensures.plan;
        promises = c.plan_changes_in_order-planned.ensures.promises;
        exact = c.plan_changes_in_order-planned.ensures.exact;
      };
      short = subst₂ (λ (names : List Name) (root : Name). IsInShort o (merge_set root names) p told) read.names read.members.root c.in_ok-answer.ensures;
    }
