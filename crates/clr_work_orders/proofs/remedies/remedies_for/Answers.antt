use Rattle.std.proofs.Common.{◌∙◌, ◌++◌, List, ap, map}
use Rattle.clr_work_orders.specs.declared.actions.Action.{Action}
use Rattle.clr_work_orders.specs.declared.actions.Action.TheVariants as action
use Rattle.clr_merge_sets.specs.MemberChanges.{set_of}
use Rattle.clr_work_orders.specs.Remedies.{for_cause, leaving_out}
use Rattle.clr_work_orders.proofs.remedies.remedies_for.Goals as goal

pub returns : goal.returns
returns c =
    let m = c.args.setting.members.now in
    let order = c.args.order.now in
    let helpers = c.in_ok-helpers.helpers.items in
    let (place, placed, is) = c.in_ok-add_for_cause.ensures c.requires in
    let cause = for_cause c.args.setting.office.now (set_of m) m.changes.items order place c.args.cause.now in
    let first = c.in_ok-add_going_first.ensures
    ∙ ap (λ (list : List Action). list ++ map action.GoFirst c.as_slice.result.now) c.new-list.ensures.items
    ∙ ap (map action.GoFirst) c.as_slice.ensures.value in (
      place,
      placed,
      helpers,
      c.in_ok-helpers.ensures,
      c.in_ok-add_leaving_out.ensures
          ∙ ap (λ (list : List Action). list ++ leaving_out order) (is ∙ ap (λ (list : List Action). list ++ cause) first),
    )
