-- What is printed of a plan as a work order.
use Rattle.std.specs.Prelude.{◌≡◌, false, not, List, []}
use Rattle.clr_workspaces.specs.Marks.{Name}
use Rattle.clr_steps.specs.Offices.{Office}
use Rattle.clr_steps.specs.Quiet.{MergeSet}
use Rattle.clr_work_orders.specs.declared.work_orders.WorkOrder.{WorkOrder}
use Rattle.clr_work_orders.specs.WorkOrders.{IsWorkOrder}
use Rattle.clr_desk_prints.specs.Members.{set_asked}
use Rattle.clr_desk_prints.specs.Printing.{PrintoutOrFault, printout_of}

-- the text of the work order, which counts as a refusal where the members aren't cleared
abbrev pub order_print : WorkOrder → PrintoutOrFault
order_print order = printout_of order.text.items [] (not order.is_cleared) false

-- a work order of a merge set for whose plan memory was found
abbrev pub IsOrderOfSet : Office → MergeSet → PrintoutOrFault → Type 0
IsOrderOfSet o s print = (order : WorkOrder) × IsWorkOrder o s order × (order.is_lost ≡ false) × (print ≡ order_print order)

-- of the members that names ask for
abbrev pub IsOrderPrint : Name → List Name → Office → PrintoutOrFault → Type 0
IsOrderPrint root names o = IsOrderOfSet o (set_asked o root names)
