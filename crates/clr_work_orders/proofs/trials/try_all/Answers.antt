use Rattle.std.proofs.Common.{◌≡◌, ◌∙◌, ◌++◌, ◌∷◌, [], List, ap, map, subst, sym, take, ◌+◌}
use Rattle.std.proofs.lemmas.List.{take_more}
use Rattle.clr_merge_sets.specs.MergeSetNames.{merge_set}
use Rattle.clr_work_orders.specs.declared.actions.Action.{Action}
use Rattle.clr_work_orders.specs.Trials.{AreTrials}
use Rattle.clr_work_orders.proofs.TrialLemmas.{more_trials}
use Rattle.clr_work_orders.proofs.trials.try_all.Goals as goal

pub loop-action-preserved : goal.loop-action-preserved
loop-action-preserved c =
    let o = c.args.office.now in
    let s = merge_set c.args.root.now (map (λ name. name.now) c.args.names.now) in
    let order = c.args.order.now in
    let actions = c.args.actions.now in
    let i = c.loop-action.action-index in
    let a = c.action-item.result in
    let more : take (i + 1) actions ≡ take i actions ++ a ∷ [] =
    take_more actions i a c.loop-action-test.true ∙ ap (λ (x : Action). take i actions ++ x ∷ []) (sym c.action-item.is) in
    subst (λ (list : List Action). AreTrials o s order list c.add_trial.new.trials.items × (c.add_trial.new.office ≡ o)) (sym more)
    (more_trials o c.loop-action.office c.add_trial.new.office s order (take i actions) a c.loop-action.trials.items c.add_trial.new.trials.items
    c.loop-action.invariant c.in_ok-add_trial.ensures.added c.in_ok-add_trial.ensures.back)
