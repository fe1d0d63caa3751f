-- The faults of a certificate: their numbers, and which says that memory ran out.
use Rattle.std.specs.Prelude.{ℕ, Bool, true, false}
use Rattle.clr_cert.specs.declared.faults.CertFault.{CertFault}
use Rattle.clr_cert.specs.declared.faults.CertFault.TheVariants.{OutOfMemory, NotCsv, FieldCount, BadKind, BadReference}

abbrev pub cert_fault_number : CertFault → ℕ
cert_fault_number OutOfMemory = 0
cert_fault_number NotCsv = 1
cert_fault_number FieldCount = 2
cert_fault_number BadKind = 3
cert_fault_number BadReference = 4

abbrev pub cert_lacks_memory : CertFault → Bool
cert_lacks_memory OutOfMemory = true
cert_lacks_memory e = false
