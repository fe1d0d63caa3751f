-- What is made in a system of coordinates, or in none.
use Rattle.std.proofs.Common.{Result, Ok, Err}
use Rattle.clr_process_io.specs.declared.faults.RunFault.{RunFault}
use Rattle.clr_process_io.specs.declared.faults.RunFault.TheVariants as run_fault
use Rattle.clr_desk_prints.specs.Printing.{IsMadePrintout, IsPrintoutFault, PrintoutOrFault, printed}
use Rattle.clr_desk_prints.specs.declared.prints.Print.{Print}

module _ (P Q : PrintoutOrFault → Type 0) (leads : (print : PrintoutOrFault) → P print → Q print) where
  fault_as : (e : RunFault) → IsPrintoutFault P e → IsPrintoutFault Q e
  fault_as (run_fault.BadOffice f) h = leads (Err (run_fault.BadOffice f)) h
  fault_as (run_fault.BadScript number f) h = leads (Err (run_fault.BadScript number f)) h
  fault_as (run_fault.BadCertificate number f) h = leads (Err (run_fault.BadCertificate number f)) h
  fault_as run_fault.OutOfMemory h = tt
  fault_as run_fault.ReadFailed h = leads (Err run_fault.ReadFailed) h
  fault_as run_fault.WriteFailed h = leads (Err run_fault.WriteFailed) h
  fault_as run_fault.TooLong h = leads (Err run_fault.TooLong) h
  fault_as run_fault.NoSeparator h = leads (Err run_fault.NoSeparator) h

  -- what is made of one kind is made of another that it leads to
  pub made_as : (result : Result Print RunFault) → IsMadePrintout P result → IsMadePrintout Q result
  made_as (Ok print) h = leads (printed print) h
  made_as (Err e) h = fault_as e h
