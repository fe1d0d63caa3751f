-- The numbers of faults.
use Rattle.std.specs.Prelude.{ℕ}
use Rattle.clr_workspace_parts.specs.declared.parts.PartFault.{PartFault}
use Rattle.clr_workspace_parts.specs.declared.parts.PartFault.TheVariants.{OutOfMemory, BadName, NameTaken, NoParent, TooMany, BadMarks}

abbrev pub part_fault_number : PartFault → ℕ
part_fault_number OutOfMemory = 0
part_fault_number BadName = 1
part_fault_number NameTaken = 2
part_fault_number NoParent = 3
part_fault_number TooMany = 4
part_fault_number BadMarks = 5
