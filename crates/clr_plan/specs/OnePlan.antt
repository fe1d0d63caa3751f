-- No merge set has two plans, memory aside.
use Rattle.std.specs.Prelude.{◌≡◌, false}
use Rattle.clr_steps.specs.Offices.{Office}
use Rattle.clr_steps.specs.Quiet.{MergeSet}
use Rattle.clr_merge_sets.specs.declared.plans.Plan.{Plan}
use Rattle.clr_merge_sets.specs.declared.plans.Plan.TheVariants as plan
use Rattle.clr_plan.specs.Plans.{IsPlan}
use Rattle.clr_merge_sets.specs.Plans.{is_out_of_memory}

-- two plans say the same: one reason, one order and one cause, or one certificate
abbrev pub AreAlike : Plan → Plan → Type 0
AreAlike (plan.Unfit v) (plan.Unfit w) = v ≡ w
AreAlike (plan.Blocked order cause) (plan.Blocked other reason) = (order.items ≡ other.items) × (cause ≡ reason)
AreAlike (plan.Cleared c) (plan.Cleared d) = c ≡ d
AreAlike _ _ = ⊥

abbrev pub OnePlanLaw : Type 0
OnePlanLaw = (o : Office) (s : MergeSet) (p q : Plan) → IsPlan o s p → IsPlan o s q → is_out_of_memory p ≡ false → is_out_of_memory q ≡ false → AreAlike p q
