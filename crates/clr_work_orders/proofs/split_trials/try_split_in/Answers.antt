use Rattle.std.proofs.Common.{◌≡◌, Bool, codes, map, rules, subst, true}
use Rattle.clr_steps.specs.declared.commands.Command.TheVariants as command
use Rattle.clr_merge_clashes.specs.Laws.{merge_set_of_part}
use Rattle.clr_merge_sets.specs.MergeSetNames.{merge_set}
use Rattle.clr_work_orders.specs.Making.{IsDone}
use Rattle.clr_work_orders.proofs.TrialLemmas.{split_back, split_told}
use Rattle.clr_work_orders.proofs.split_trials.try_split_in.Goals as goal

pub returns-clause-told : goal.returns-clause-told
returns-clause-told c =
    let o = c.args.office.now in
    let ws = c.args.ws.now in
    let s = merge_set c.args.root.now (map (λ name. name.now) c.args.names.now) in
    let saved = c.set_savepoint.new.office in
    let set : c.in_ok-set_savepoint.field-0 ≡ true = search rules in
    let mark = subst (λ (done : Bool). IsDone o (command.Mark ws (codes "before_trial")) done saved) set c.in_ok-set_savepoint.ensures in
    split_told o saved c.judge_split.new.office s (merge_set_of_part s c.args.order.now) ws c.args.split.now c.in_ok-told.told mark c.in_ok-told.ensures

pub returns-clause-back : goal.returns-clause-back
returns-clause-back c =
    let o = c.args.office.now in
    let ws = c.args.ws.now in
    let s = merge_set c.args.root.now (map (λ name. name.now) c.args.names.now) in
    let saved = c.set_savepoint.new.office in
    let set : c.in_ok-set_savepoint.field-0 ≡ true = search rules in
    let mark = subst (λ (done : Bool). IsDone o (command.Mark ws (codes "before_trial")) done saved) set c.in_ok-set_savepoint.ensures in
    split_back o saved c.judge_split.new.office c.go_back.new.office s (merge_set_of_part s c.args.order.now) ws (codes "before_trial") c.args.split.now
    c.in_ok-told.told c.len-sound.ensures.sound mark c.in_ok-told.ensures c.in_ok-go_back.ensures
