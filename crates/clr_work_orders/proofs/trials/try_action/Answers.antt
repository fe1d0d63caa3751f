use Rattle.std.proofs.Common.{◌≡◌, ◌∙◌, Some, ap, length, map, refl, subst, sym}
use Rattle.std.specs.Prelude.{IfOk, slice_get}
use Rattle.std.specs.Option.{option_map}
use Rattle.std.proofs.lemmas.Option.{slice_get-map, slice_get_read}
use Rattle.std.proofs.lemmas.Result.{IfOk-weaker}
use Rattle.clr_merge_sets.specs.MergeSetNames.{merge_set}
use Rattle.clr_work_orders.specs.declared.actions.Action.{Action}
use Rattle.clr_work_orders.specs.Making.{IsActionTried}
use Rattle.clr_work_orders.proofs.TrialLemmas.{told_as}
use Rattle.clr_work_orders.proofs.trials.try_action.Goals as goal

pub returns-in-Some-clause-told : goal.returns-in-Some-clause-told
returns-in-Some-clause-told c =
    let names = c.args.names.now in
    let o = c.args.office.now in
    let s = merge_set c.args.root.now (map (λ name. name.now) names) in
    let (some, item, stands, at, d) = c.in-Some.ensures.lookup in
    let there : slice_get names c.in-Make.member ≡ Some c.in-Some.ws.now = slice_get_read names (length names) c.in-Make.member c.in-Some.ws.now refl at.0
    item in
    let named : slice_get (map (λ name. name.now) names) c.in-Make.member ≡ Some c.in-Some.ws.now.now =
    slice_get-map (λ name. name.now) names c.in-Make.member ∙ ap (option_map (λ name. name.now)) there in
    subst (λ (action : Action). IfOk c.try_edit.result (IsActionTried o s c.args.order.now action)) (sym c.in-Make.is)
    (IfOk-weaker c.try_edit.result _ _ (told_as o s c.args.order.now c.in-Make.member c.in-Make.edit c.in-Some.ws.now.now named) c.try_edit.ensures.told)
