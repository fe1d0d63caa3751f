-- What is printed where the certificate of an order is asked for.
use Rattle.std.proofs.Common.{◌≡◌, ◌∙◌, ℕ, List, Result, Ok, Err, Some}
use Rattle.std.specs.Prelude.{IfOk}
use Rattle.clr_steps.specs.Offices.{Office}
use Rattle.clr_steps.specs.Quiet.{MergeSet}
use Rattle.clr_merge_orders.specs.declared.merge_orders.MergeOrder.{MergeOrder}
use Rattle.clr_merge_orders.specs.MergeOrders.{IsFoundOrder, in_this_order, order_in}
use Rattle.clr_merge_orders.proofs.FoundOrders.{found_is_cleared}
use Rattle.clr_desk_orders.specs.MergeOrders.{order_lines}
use Rattle.clr_desk_orders.specs.OrderCertificates.{IsOrderCertificateOfSet, behind_lines, of_order}
use Rattle.clr_desk_orders.specs.PlansInOrder.{IsPlanInOrderPrint}
use Rattle.clr_desk_prints.specs.Printing.{PrintoutOrFault, printed}
use Rattle.clr_desk_prints.specs.declared.prints.Print.{Print}

-- the certificate of an order that was found, behind its lines
pub certificate_printed : {E : Type 0} (o : Office) (s : MergeSet) (found : MergeOrder) (order lines : List ℕ) (bare : PrintoutOrFault) (result : Result Print E)
    → IsFoundOrder o s found → order_in found ≡ Some order → lines ≡ order_lines o s found → IsPlanInOrderPrint o (in_this_order s order) bare
    → IfOk result (λ p. printed p ≡ behind_lines lines bare) → IfOk result (λ p. IsOrderCertificateOfSet o s (printed p))
certificate_printed o s found order lines bare (Ok print) told order_is lines_are (p, planned, is) made =
    of_order found order p told order_is planned (found_is_cleared o s found order p told order_is planned.exact) (made ∙ (λ i. behind_lines (lines_are i) (is i)))
certificate_printed o s found order lines bare (Err e) told order_is lines_are is made = tt
