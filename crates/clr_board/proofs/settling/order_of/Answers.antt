use Rattle.std.proofs.Common.{◌∙◌, IfOk, List, ap, map, subst}
use Rattle.clr_workspaces.specs.Marks.{Name}
use Rattle.clr_merge_sets.specs.MergeSetNames.{merge_set}
use Rattle.clr_merge_orders.specs.MergeOrders.{IsFoundOrder}
use Rattle.clr_board.proofs.settling.order_of.Goals as goal

-- the names are those of the members at the positions
pub returns : goal.returns
returns c =
    let given = ap (map (λ name. name.now)) c.as_slice.ensures.value ∙ c.in_ok-names.ensures in
    subst (λ (names : List Name). IfOk c.merge_order.result (IsFoundOrder c.args.office.now (merge_set c.args.members.now.root.now names))) given
    c.merge_order.ensures.found
