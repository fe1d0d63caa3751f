use Rattle.std.proofs.Common.{map, subst}
use Rattle.clr_merge_sets.specs.Faults.{IsMergeSetFault}
use Rattle.clr_merge_sets.specs.MergeSetNames.{merge_set}
use Rattle.clr_plan.proofs.FaultLaws.{memory_fault}
use Rattle.clr_merge_orders.proofs.merge_orders.order_of_changes.Goals as goal

pub returns-in-Err-OutOfMemory-clause-lost : goal.returns-in-Err-OutOfMemory-clause-lost
returns-in-Err-OutOfMemory-clause-lost c =
    let o = c.args.office.now in
    let s = merge_set c.args.root.now (map (λ name. name.now) c.args.members.now) in
    memory_fault o s (subst (IsMergeSetFault o s) c.in-Err-OutOfMemory.field-0-is c.in-Err-OutOfMemory.ensures.fault)
