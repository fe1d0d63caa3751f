use Rattle.std.proofs.Common.{◌≡◌, List, IfOk, map, slice_get, subst}
use Rattle.std.specs.List.{filter_map}
use Rattle.clr_workspaces.specs.Marks.{Name}
use Rattle.clr_merge_sets.specs.MergeSetNames.{merge_set}
use Rattle.clr_desk_prints.specs.Printing.{printed}
use Rattle.clr_desk_orders.specs.PlansInOrder.{IsPlanInOrderPrint}
use Rattle.clr_desk_orders.proofs.order_certificates.print_of_positions.Goals as goal

pub returns : goal.returns
returns c =
    let given : map (λ name. name.now) c.as_slice.result.now ≡ filter_map (slice_get (map (λ name. name.now) c.args.members.now)) c.args.order.now =
    rw c.as_slice.ensures.value c.in_ok-names.ensures in
    subst (λ (members : List Name). IfOk c.print_in_order.result (λ p. IsPlanInOrderPrint c.args.office.now (merge_set c.args.root.now members) (printed p)))
    given c.print_in_order.ensures
