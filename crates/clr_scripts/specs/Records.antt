-- The records of a text, and which fault of one says that memory ran out.
use Rattle.std.specs.Prelude.{ℕ, Bool, true, false, List, Result}
use Rattle.clr_readings.specs.Readings.{or_fault}
use Rattle.clr_records.specs.Records.{records_in}
use Rattle.clr_scripts.specs.declared.faults.RecordFault.{RecordFault}
use Rattle.clr_scripts.specs.declared.faults.RecordFault.TheVariants.{OutOfMemory, NotCsv}

abbrev pub record_lacks_memory : RecordFault → Bool
record_lacks_memory OutOfMemory = true
record_lacks_memory e = false

-- the records of a text, or no CSV where the bytes aren't UTF-8
abbrev pub records_or_fault : List ℕ → Result (List (List (List ℕ))) (ℕ × RecordFault)
records_or_fault bytes = or_fault (1, NotCsv) (records_in bytes)
