-- What is printed of an order in which members can be merged, or of why none was found.
use Rattle.std.specs.Prelude.{◌≡◌, ℕ, false, List, [], is_none}
use Rattle.clr_workspaces.specs.Marks.{Name}
use Rattle.clr_steps.specs.Offices.{Office}
use Rattle.clr_steps.specs.Quiet.{MergeSet}
use Rattle.clr_merge_orders.specs.declared.merge_orders.MergeOrder.{MergeOrder}
use Rattle.clr_merge_orders.specs.MergeOrders.{IsFoundOrder, order_in}
use Rattle.clr_merge_orders.specs.OrderLines.{merge_order_text}
use Rattle.clr_desk_prints.specs.Members.{set_asked}
use Rattle.clr_desk_prints.specs.Printing.{PrintoutOrFault, printout_of}

-- the lines of what is said of orders
abbrev pub order_lines : Office → MergeSet → MergeOrder → List ℕ
order_lines o s order = merge_order_text o.schema s.members s.root order

-- the lines, which count as a refusal unless they are of an order
abbrev pub order_print : Office → MergeSet → MergeOrder → PrintoutOrFault
order_print o s order = printout_of (order_lines o s order) [] (is_none (order_in order)) false

-- of a merge set
abbrev pub IsMergeOrderOfSet : Office → MergeSet → PrintoutOrFault → Type 0
IsMergeOrderOfSet o s print = (order : MergeOrder) × IsFoundOrder o s order × (print ≡ order_print o s order)

-- of the members that names ask for
abbrev pub IsMergeOrderPrint : Name → List Name → Office → PrintoutOrFault → Type 0
IsMergeOrderPrint root names o = IsMergeOrderOfSet o (set_asked o root names)
