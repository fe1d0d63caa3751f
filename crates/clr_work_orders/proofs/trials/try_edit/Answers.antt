use Rattle.std.proofs.Common.{List, map, subst}
use Rattle.clr_change.specs.declared.edits.Edit.{Edit}
use Rattle.clr_merge_clashes.specs.Laws.{merge_set_of_part}
use Rattle.clr_merge_sets.specs.MergeSetNames.{merge_set}
use Rattle.clr_work_orders.specs.Making.{IsEditTried}
use Rattle.clr_work_orders.proofs.trials.try_edit.Goals as goal

pub returns-clause-told : goal.returns-clause-told
returns-clause-told c =
    let part = merge_set_of_part (merge_set c.args.root.now (map (λ name. name.now) c.args.names.now)) c.args.order.now in
    subst (λ (edits : List Edit). IsEditTried c.args.office.now c.args.ws.now edits part c.in_ok-told.told) c.in_ok-edits.ensures c.in_ok-told.ensures.told
