-- What is printed of orders in which members can be merged.
use Rattle.std.specs.Prelude.{List}
use Rattle.clr_workspaces.specs.Marks.{Name}
use Rattle.clr_steps.specs.Offices.{Office}
use Rattle.clr_desk_command_line.specs.declared.asks.OrderAsk.{OrderAsk}
use Rattle.clr_desk_command_line.specs.declared.asks.OrderAsk.TheVariants as order
use Rattle.clr_desk_orders.specs.ChoicesInOrder.{IsChoiceInOrderPrint}
use Rattle.clr_desk_orders.specs.MergeOrders.{IsMergeOrderPrint}
use Rattle.clr_desk_orders.specs.OrderCertificates.{IsOrderCertificatePrint}
use Rattle.clr_desk_orders.specs.PlansInOrder.{IsCertificateInOrderPrint}
use Rattle.clr_desk_prints.specs.Printing.{PrintoutOrFault}

-- what is to be printed for what is asked of the orders of the members that names ask for
abbrev pub IsInOrderPrint : OrderAsk → Name → List Name → Office → PrintoutOrFault → Type 0
IsInOrderPrint order.Order = IsMergeOrderPrint
IsInOrderPrint order.OrderCertificate = IsOrderCertificatePrint
IsInOrderPrint order.Certificate = IsCertificateInOrderPrint
IsInOrderPrint order.Keep = IsChoiceInOrderPrint
