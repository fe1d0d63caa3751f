-- What is printed where the certificate of an order is asked for.
use Rattle.std.specs.Prelude.{◌≡◌, ◌++◌, ℕ, true, false, List, [], Some, None, Ok, Err}
use Rattle.clr_workspaces.specs.Marks.{Name}
use Rattle.clr_steps.specs.Offices.{Office}
use Rattle.clr_steps.specs.Quiet.{MergeSet}
use Rattle.clr_merge_sets.specs.Plans.{is_cleared, is_out_of_memory}
use Rattle.clr_merge_sets.specs.declared.plans.Plan.{Plan}
use Rattle.clr_merge_orders.specs.declared.merge_orders.MergeOrder.{MergeOrder}
use Rattle.clr_desk_prints.specs.Members.{set_asked}
use Rattle.clr_desk_prints.specs.Printing.{PrintoutOrFault, printout_of}
use Rattle.clr_merge_orders.specs.MergeOrders.{IsFoundOrder, in_this_order, order_in}
use Rattle.clr_desk_orders.specs.MergeOrders.{order_lines}
use Rattle.clr_desk_orders.specs.PlanPrints.{plan_print}
use Rattle.clr_desk_orders.specs.PlansInOrder.{IsPlannedInOrder}

-- what is printed, with lines in front of its notes
abbrev pub behind_lines : List ℕ → PrintoutOrFault → PrintoutOrFault
behind_lines lines (Ok print) = Ok (record print { notes = lines ++ print.notes })
behind_lines lines (Err e) = Err e

-- the lines of an order that was found, as notes, and the certificate of the members in this order, of which the plan is cleared, if memory was found; or the
-- lines that say why none was found, as notes, which count as a refusal
pub data IsOrderCertificateOfSet (o : Office) (s : MergeSet) (print : PrintoutOrFault) : Type 0 where
  of_order : (found : MergeOrder) (order : List ℕ) (p : Plan) → IsFoundOrder o s found → order_in found ≡ Some order
      → IsPlannedInOrder o (in_this_order s order) p → (is_out_of_memory p ≡ false → is_cleared p ≡ true)
      → print ≡ behind_lines (order_lines o s found) (plan_print o (in_this_order s order) p) → IsOrderCertificateOfSet o s print
  of_none : (found : MergeOrder) → IsFoundOrder o s found → order_in found ≡ None → print ≡ printout_of [] (order_lines o s found) true false
      → IsOrderCertificateOfSet o s print

-- of the members that names ask for
abbrev pub IsOrderCertificatePrint : Name → List Name → Office → PrintoutOrFault → Type 0
IsOrderCertificatePrint root names o print = IsOrderCertificateOfSet o (set_asked o root names) print
