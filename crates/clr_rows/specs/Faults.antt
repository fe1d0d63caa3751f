-- The numbers of faults.
use Rattle.std.specs.Prelude.{ℕ}
use Rattle.clr_rows.specs.declared.faults.SchemaFault.{SchemaFault}
use Rattle.clr_rows.specs.declared.faults.SchemaFault.TheVariants.{TooMany, BadName, NameTaken}
use Rattle.clr_rows.specs.declared.faults.RowFault.{RowFault}
use Rattle.clr_rows.specs.declared.faults.RowFault.TheVariants.{NoTable, WrongCount, WrongKind, WordsTooLong, WrongShape, OutOfRange, ZeroSegment, BadPath}

abbrev pub schema_fault_number : SchemaFault → ℕ
schema_fault_number TooMany = 1
schema_fault_number BadName = 2
schema_fault_number NameTaken = 3

abbrev pub row_fault_number : RowFault → ℕ
row_fault_number NoTable = 1
row_fault_number WrongCount = 2
row_fault_number WrongKind = 3
row_fault_number WordsTooLong = 4
row_fault_number WrongShape = 5
row_fault_number OutOfRange = 6
row_fault_number ZeroSegment = 7
row_fault_number BadPath = 8
