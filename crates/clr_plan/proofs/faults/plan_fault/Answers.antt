use Rattle.std.proofs.Common.{subst}
use Rattle.clr_merge_sets.specs.Faults.{IsMergeSetFault}
use Rattle.clr_plan.proofs.FaultLaws.{conflict_plan, memory_fault, unfit_plan}
use Rattle.clr_plan.proofs.faults.plan_fault.Goals as goal

pub returns-in-OutOfMemory : goal.returns-in-OutOfMemory
returns-in-OutOfMemory c = λ o s fault. memory_fault o s (subst (IsMergeSetFault o s) c.in-OutOfMemory.is fault)

pub returns-in-Conflict : goal.returns-in-Conflict
returns-in-Conflict c = λ o s fault. conflict_plan o s c.in-Conflict.member c.in-Conflict.cell c.in-Conflict.count c.blocked_plan.result
    (subst (IsMergeSetFault o s) c.in-Conflict.is fault) c.blocked_plan.ensures

pub returns-in_default : goal.returns-in_default
returns-in_default c = λ o s fault. unfit_plan o s c.args.fault c.in_default.not-OutOfMemory c.in_default.not-Conflict fault
