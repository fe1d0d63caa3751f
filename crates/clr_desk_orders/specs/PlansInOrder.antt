-- What is printed of members in the order of their names.
use Rattle.std.specs.Prelude.{◌≡◌, List}
use Rattle.clr_workspaces.specs.Marks.{Name}
use Rattle.clr_steps.specs.Offices.{Office}
use Rattle.clr_steps.specs.Quiet.{MergeSet}
use Rattle.clr_merge_sets.specs.declared.plans.Plan.{Plan}
use Rattle.clr_plan.specs.Certificates.{IsReadableWhereCleared}
use Rattle.clr_plan.specs.OrderedPlans.{IsExactInOrder, IsPlanInOrder, PromisesInOrder}
use Rattle.clr_ordered_plans.specs.Plans.{IsPlanWithoutPairs}
use Rattle.clr_desk_prints.specs.Members.{set_asked}
use Rattle.clr_desk_prints.specs.Printing.{PrintoutOrFault}
use Rattle.clr_desk_orders.specs.PlanPrints.{plan_print}

-- the plan of members in the order of their names, with what it promises: a cleared one that the verdict on its certificate is clear, and that it can be read;
-- a blocked one that of the first merges one is refused. Memory aside it is cleared exactly where no merge in this order is refused, if the members are
-- mergeable; and where no member has to go before another, it is a plan for every order
pub record IsPlannedInOrder (o : Office) (s : MergeSet) (p : Plan) : Type 0 where
  pub plan : IsPlanInOrder o s p
  pub promises : PromisesInOrder o s p
  pub exact : IsExactInOrder o s p
  pub readable : IsReadableWhereCleared o p
  pub without_pairs : IsPlanWithoutPairs o s p

-- the certificate, or why there is none
abbrev pub IsPlanInOrderPrint : Office → MergeSet → PrintoutOrFault → Type 0
IsPlanInOrderPrint o s print = (p : Plan) × IsPlannedInOrder o s p × (print ≡ plan_print o s p)

-- of the members that names ask for
abbrev pub IsCertificateInOrderPrint : Name → List Name → Office → PrintoutOrFault → Type 0
IsCertificateInOrderPrint root names o = IsPlanInOrderPrint o (set_asked o root names)
