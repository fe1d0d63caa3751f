-- The numbers of faults.
use Rattle.std.specs.Prelude.{ℕ}
use Rattle.clr_scripts.specs.declared.faults.RecordFault.{RecordFault}
use Rattle.clr_scripts.specs.declared.faults.RecordFault.TheVariants.{OutOfMemory, NotCsv, FieldCount, BadWord, NoTable, BadNumber}

abbrev pub record_fault_number : RecordFault → ℕ
record_fault_number OutOfMemory = 0
record_fault_number NotCsv = 1
record_fault_number FieldCount = 2
record_fault_number BadWord = 3
record_fault_number NoTable = 4
record_fault_number BadNumber = 5
