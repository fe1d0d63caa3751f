-- The names of faults of scripts and certificates, each with its number.
use Rattle.std.specs.Prelude.{ℕ, List, codes}
use Rattle.clr_scripts.specs.declared.faults.RecordFault.{RecordFault}
use Rattle.clr_scripts.specs.declared.faults.RecordFault.TheVariants as script
use Rattle.clr_cert.specs.declared.faults.CertFault.{CertFault}
use Rattle.clr_cert.specs.declared.faults.CertFault.TheVariants as certificate

abbrev pub script_fault_words : RecordFault → List ℕ
script_fault_words script.OutOfMemory = codes "script 0 OutOfMemory"
script_fault_words script.NotCsv = codes "script 1 NotCsv"
script_fault_words script.FieldCount = codes "script 2 FieldCount"
script_fault_words script.BadWord = codes "script 3 BadWord"
script_fault_words script.NoTable = codes "script 4 NoTable"
script_fault_words script.BadNumber = codes "script 5 BadNumber"

abbrev pub certificate_fault_words : CertFault → List ℕ
certificate_fault_words certificate.OutOfMemory = codes "certificate 0 OutOfMemory"
certificate_fault_words certificate.NotCsv = codes "certificate 1 NotCsv"
certificate_fault_words certificate.FieldCount = codes "certificate 2 FieldCount"
certificate_fault_words certificate.BadKind = codes "certificate 3 BadKind"
certificate_fault_words certificate.BadReference = codes "certificate 4 BadReference"
