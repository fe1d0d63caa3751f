-- What is said of members whom nobody helps.
use Rattle.std.specs.Prelude.{◌≡◌, ◌<◌, ℕ, false, List, [], Contains, length}
use Rattle.clr_needs.specs.declared.needs.Need.{Need}
use Rattle.clr_needs.specs.Blocking.{IsBlockerOf}
use Rattle.clr_open_needs.specs.OpenNeeds.{IsOpenNeed}
use Rattle.clr_steps.specs.Offices.{Office}
use Rattle.clr_steps.specs.Quiet.{MergeSet}
use Rattle.clr_clearance.specs.MergeSets.{setting_by_position}
use Rattle.clr_clashes.specs.Clashes.{IsAllIn}
use Rattle.clr_merge_sets.specs.Plans.{is_cleared}
use Rattle.clr_merge_sets.specs.declared.plans.Plan.{Plan}
use Rattle.clr_plan.specs.OrderedPlans.{IsPlanInOrder}
use Rattle.clr_merge_clashes.specs.Laws.{merge_set_of_part}
use Rattle.clr_clash_helpers.specs.Helpers.{AreHelpers, AreTogether}

-- some members who break a touched need by themselves: nothing covers it, and each of them blocks it
pub record BreakAlone (o : Office) (s : MergeSet) (others : List ℕ) (n : Need) : Type 0 where
  pub together : AreTogether o (merge_set_of_part s others)
  pub is_open : IsOpenNeed (setting_by_position o (merge_set_of_part s others)) n
  pub block : (k : ℕ) → k < length others → IsBlockerOf (setting_by_position o (merge_set_of_part s others)) n k

-- where nobody helps members who break a need by themselves, no plan of a list of members with all of these in it is cleared in its order
abbrev pub UnhelpedSetLaw : Type 0
UnhelpedSetLaw = (o : Office) (s : MergeSet) (others list : List ℕ) (n : Need) (p : Plan)
    → BreakAlone o s others n
    → AreHelpers o s others n []
    → IsAllIn others list
    → ((at : ℕ) → Contains list at → at < length s.members)
    → IsPlanInOrder o (merge_set_of_part s list) p
    → is_cleared p ≡ false
