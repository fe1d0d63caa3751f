-- Members that are taken one after another, each where it is cleared with those taken before it.
use Rattle.std.specs.Prelude.{◌≡◌, false, List, []}
use Rattle.clr_workspaces.specs.Marks.{Name}
use Rattle.clr_steps.specs.Offices.{Office}
use Rattle.clr_cert.specs.declared.certificates.Certificate.{Certificate}
use Rattle.clr_merge_sets.specs.MergeSetNames.{merge_set}
use Rattle.clr_merge_sets.specs.declared.plans.Plan.{Plan}
use Rattle.clr_merge_sets.specs.declared.plans.Plan.TheVariants as plan
use Rattle.clr_merge_sets.specs.Plans.{is_cleared}
use Rattle.clr_choices.specs.Clearable.{IsPlanOf}
use Rattle.clr_choices.specs.Trials.{AreTrials, Trial, taken_in}
use Rattle.clr_desk_orders.specs.ChoicePrints.{choice_print}
use Rattle.clr_desk_orders.specs.PlanPrints.{plan_print}
use Rattle.clr_desk_prints.specs.Members.{members_or_children}
use Rattle.clr_desk_prints.specs.Printing.{PrintoutOrFault}

-- nobody is cleared, names are tried in their order, and the plan of those taken is cleared by this certificate; or not even nobody is cleared
pub data IsChoicePrint (root : Name) (names : List Name) (o : Office) (print : PrintoutOrFault) : Type 0 where
  of_trials : (nobody : Certificate) (trials : List Trial) (c : Certificate) → IsPlanOf o (merge_set root []) (plan.Cleared nobody)
      → AreTrials o root (members_or_children o root names) trials
      → IsPlanOf o (merge_set root (taken_in trials)) (plan.Cleared c)
      → print ≡ choice_print o root trials c → IsChoicePrint root names o print
  of_nobody : (p : Plan) → IsPlanOf o (merge_set root []) p → is_cleared p ≡ false → print ≡ plan_print o (merge_set root []) p
      → IsChoicePrint root names o print
