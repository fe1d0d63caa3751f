use Rattle.std.proofs.Common.{◌∙◌, Option, Some, ap, map, subst}
use Rattle.clr_steps.specs.Offices.{Office}
use Rattle.clr_merge_sets.specs.MergeSetNames.{merge_set}
use Rattle.clr_work_orders.specs.declared.answers.Answer.{Answer}
use Rattle.clr_work_orders.specs.Actions.{action_text}
use Rattle.clr_work_orders.specs.Making.{IsActionTried}
use Rattle.clr_work_orders.proofs.TrialLemmas.{tried_as}
use Rattle.clr_work_orders.proofs.trials.add_trial.Goals as goal

pub returns-in_ok-push-in-Some-clause-added : goal.returns-in_ok-push-in-Some-clause-added
returns-in_ok-push-in-Some-clause-added c =
    let o = c.args.office.now in
    let s = merge_set c.args.root.now (map (λ name. name.now) c.args.names.now) in
    let order = c.args.order.now in
    let a = c.args.action.now in
    let trial = c.in_ok-trial_of-in-Some.field-0 in
    let told = subst (λ (r : Option Answer). IsActionTried o s order a r) c.in-Some.is c.in_ok-answer.ensures.told in
    let words = c.in_ok-trial_of-in-Some.ensures.words ∙ ap (λ (x : Office). action_text x.schema s.members order a) c.in_ok-answer.ensures.back in (
      Some trial,
      tried_as o s order a c.in-Some.answer trial told words c.in_ok-trial_of-in-Some.ensures.action c.in_ok-trial_of-in-Some.ensures.answer,
      c.in_ok-push-in-Some.ensures.items,
    )
