use Rattle.std.proofs.Common.{◌≡◌, Some, map, rules, sym}
use Rattle.clr_merge_sets.specs.MergeSetNames.{merge_set}
use Rattle.clr_merge_orders.specs.MergeOrders.{order_in}
use Rattle.clr_desk_orders.specs.OrderCertificates.{of_none}
use Rattle.clr_desk_orders.proofs.FoundOrders.{certificate_printed}
use Rattle.clr_desk_orders.proofs.order_certificates.print_of_order.Goals as goal

pub returns-in_ok-print-in-Some : goal.returns-in_ok-print-in-Some
returns-in_ok-print-in-Some c =
    let s = merge_set c.args.root.now (map (λ name. name.now) c.args.members.now) in
    let order_is : order_in c.args.order.now ≡ Some c.in-Some.positions.now = sym c.in-Some.ensures in
    certificate_printed c.args.office.now s c.args.order.now _ _ _ c.behind_lines.result c.requires order_is c.in_ok-lines.ensures c.in_ok-print-in-Some.ensures
    c.behind_lines.ensures

pub returns-in-None : goal.returns-in-None
returns-in-None c = of_none c.args.order.now c.requires (sym c.in-None.ensures) (search rules)
