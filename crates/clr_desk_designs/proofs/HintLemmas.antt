-- What is printed with hints at names is a fault where it is one without them.
use Rattle.std.proofs.Common.{List, Err}
use Rattle.clr_workspaces.specs.Marks.{Name}
use Rattle.clr_steps.specs.Offices.{Office}
use Rattle.clr_process_io.specs.declared.faults.RunFault.{RunFault}
use Rattle.clr_process_io.specs.declared.faults.RunFault.TheVariants as run_fault
use Rattle.clr_desk_prints.specs.NameHints.{HintsAt, IsHinted}
use Rattle.clr_desk_prints.specs.Printing.{IsPrintoutFault, PrintoutOrFault}

module _ (P : Office → PrintoutOrFault → Type 0) (names : List Name) (o : Office) (hints : (e : RunFault) → HintsAt o names (Err e) (Err e)) where
  with_hints : (e : RunFault) → P o (Err e) → IsHinted P names o (Err e)
  with_hints e is = (Err e, is, hints e)

  pub hinted_fault : (e : RunFault) → IsPrintoutFault (P o) e → IsPrintoutFault (IsHinted P names o) e
  hinted_fault run_fault.OutOfMemory is = tt
  hinted_fault run_fault.ReadFailed is = with_hints run_fault.ReadFailed is
  hinted_fault run_fault.WriteFailed is = with_hints run_fault.WriteFailed is
  hinted_fault run_fault.TooLong is = with_hints run_fault.TooLong is
  hinted_fault run_fault.NoSeparator is = with_hints run_fault.NoSeparator is
  hinted_fault (run_fault.BadOffice fault) is = with_hints (run_fault.BadOffice fault) is
  hinted_fault (run_fault.BadScript number fault) is = with_hints (run_fault.BadScript number fault) is
  hinted_fault (run_fault.BadCertificate number fault) is = with_hints (run_fault.BadCertificate number fault) is
