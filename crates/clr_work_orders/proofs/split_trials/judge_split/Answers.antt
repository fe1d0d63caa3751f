use Rattle.std.proofs.Common.{◌≡◌, Bool, inr, map, rules, subst, sym, true}
use Rattle.clr_steps.specs.declared.commands.Command.TheVariants as command
use Rattle.clr_steps.specs.Offices.{Office}
use Rattle.clr_merge_clashes.specs.Laws.{merge_set_of_part}
use Rattle.clr_merge_sets.specs.MergeSetNames.{merge_set}
use Rattle.clr_work_orders.specs.Making.{IsDone, IsOtherTried}
use Rattle.clr_work_orders.proofs.split_trials.judge_split.Goals as goal

pub returns : goal.returns
returns c =
    let o = c.args.office.now in
    let s = merge_set c.args.root.now (map (λ name. name.now) c.args.names.now) in
    let split = c.args.split.now in
    let apply = command.Apply c.args.ws.now split.first.edits in
    let set : c.in_ok-make_edits.field-0 ≡ true = search rules in
    let made = subst (λ (done : Bool). IsDone o apply done c.make_edits.new.office) set c.in_ok-make_edits.ensures in
    let there = sym c.in_ok-told.ensures.back in
    inr (
      subst (λ (left : Office). IsDone o apply true left) there made,
      subst (λ (left : Office). IsOtherTried left s (merge_set_of_part s c.args.order.now) split.other c.in_ok-told.told) there c.in_ok-told.ensures.told,
    )
