-- No merge set has two plans in the order of its members, memory and certificates aside.
use Rattle.std.specs.Prelude.{◌≡◌, false, ⊤}
use Rattle.clr_steps.specs.Offices.{Office}
use Rattle.clr_steps.specs.Quiet.{MergeSet}
use Rattle.clr_merge_sets.specs.Plans.{is_out_of_memory}
use Rattle.clr_merge_sets.specs.declared.plans.Plan.{Plan}
use Rattle.clr_merge_sets.specs.declared.plans.Plan.TheVariants as plan
use Rattle.clr_office.specs.Outcomes.{IsPlannedInOrder}

-- two plans say the same: one reason, or one order and one cause; or both are cleared, each with a certificate
abbrev pub AreAlikeInOrder : Plan → Plan → Type 0
AreAlikeInOrder (plan.Unfit v) (plan.Unfit w) = v ≡ w
AreAlikeInOrder (plan.Blocked order cause) (plan.Blocked other reason) = (order.items ≡ other.items) × (cause ≡ reason)
AreAlikeInOrder (plan.Cleared c) (plan.Cleared d) = ⊤
AreAlikeInOrder _ _ = ⊥

abbrev pub OnePlanInOrderLaw : Type 0
OnePlanInOrderLaw = (o : Office) (s : MergeSet) (p q : Plan)
    → IsPlannedInOrder o s p
    → IsPlannedInOrder o s q
    → is_out_of_memory p ≡ false
    → is_out_of_memory q ≡ false
    → AreAlikeInOrder p q
