-- Causes that are found.
use Rattle.std.proofs.Common.{◌≡◌, Option, Some, IfOk, Result, Ok, Err, refl}
use Rattle.std.specs.declared.alloc.AllocError.{AllocError}
use Rattle.clr_rules.specs.declared.rules.Rule.{Rule}
use Rattle.clr_needs.specs.declared.needs.Need.{Need}
use Rattle.clr_steps.specs.Offices.{Office}
use Rattle.clr_steps.specs.Quiet.{MergeSet}
use Rattle.clr_map_scenes.specs.declared.shown_causes.Cause.{Cause}
use Rattle.clr_plan_causes.specs.PlanCauses.{IsCauseUnder, IsNeedCause}

pub found_under : (o : Office) (s : MergeSet) (need : Need) (told : Option Rule) (rule : Rule) (c : Cause) → told ≡ Some rule
    → IsNeedCause o s need rule c → IsCauseUnder o s need told (Some c)
found_under o s need told rule c is found = rw is ((c, refl, found))

-- what is so of each cause with a property is so of one that is found with it
pub found_with : (P Q : Option Cause → Type 0) (r : Result (Option Cause) AllocError) → ((found : Option Cause) → P found → Q found) → IfOk r P → IfOk r Q
found_with P Q (Ok found) more is = more found is
found_with P Q (Err fault) more is = tt
