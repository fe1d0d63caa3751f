use Rattle.std.proofs.Common.{[], ◌∷◌, subst}
use Rattle.clr_needs.specs.Members.{IsSceneFault}
use Rattle.clr_clearance.specs.MergeSets.{change_sets}
use Rattle.clr_plan.specs.Plans.{IsBlockedIn}
use Rattle.clr_plan.proofs.FaultLaws.{shared_plan}
use Rattle.clr_plan.proofs.faults.plan_shared.Goals as goal

pub returns-in-SharedCell : goal.returns-in-SharedCell
returns-in-SharedCell c = λ o s none fault.
    let first = c.in-SharedCell.first in
    let second = c.in-SharedCell.second in
    let plan = c.blocked_plan.result in
    let blocked = subst (λ v. IsBlockedIn (first ∷ second ∷ []) v plan) c.verdict_of.ensures c.blocked_plan.ensures in
    shared_plan o s _ first second plan none (subst (IsSceneFault (change_sets o s)) c.in-SharedCell.is fault) blocked
