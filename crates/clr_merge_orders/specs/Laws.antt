-- What a plan in order says of an order that was found.
use Rattle.std.specs.Prelude.{◌≡◌, ℕ, true, false, List, Some}
use Rattle.clr_steps.specs.Offices.{Office}
use Rattle.clr_steps.specs.Quiet.{MergeSet}
use Rattle.clr_merge_sets.specs.Plans.{is_cleared, is_out_of_memory}
use Rattle.clr_merge_sets.specs.declared.plans.Plan.{Plan}
use Rattle.clr_plan.specs.OrderedPlans.{IsExactInOrder}
use Rattle.clr_merge_orders.specs.declared.merge_orders.MergeOrder.{MergeOrder}
use Rattle.clr_merge_orders.specs.MergeOrders.{IsFoundOrder, in_this_order, order_in}

-- the plan of the members in an order that was found is cleared, if memory was found
abbrev pub FoundOrderLaw : Type 0
FoundOrderLaw = (o : Office) (s : MergeSet) (found : MergeOrder) (order : List ℕ) (p : Plan)
    → IsFoundOrder o s found
    → order_in found ≡ Some order
    → IsExactInOrder o (in_this_order s order) p
    → is_out_of_memory p ≡ false
    → is_cleared p ≡ true
