-- What is made for texts, by what is made of what they give.
use Rattle.std.proofs.Common.{◌≡◌, Result, Ok, Err, ap, refl, subst, sym}
use Rattle.clr_steps.specs.Offices.{Office}
use Rattle.clr_cert.specs.declared.certificates.Certificate.{Certificate}
use Rattle.clr_office.specs.Cases.{Case, IsCaseFault}
use Rattle.clr_office.specs.CaseFault.{CaseFault}
use Rattle.clr_office.specs.CaseFault.TheVariants as no_case
use Rattle.clr_office.specs.Drafts.{Opened}
use Rattle.clr_office.specs.Clearances.{fault_print}
use Rattle.clr_office.specs.Printing.{IsNoPrint}
use Rattle.clr_office.specs.Printing.{IsOutput as AreLinesMade, IsPrintIn as IsLinesIn, IsTextFault as IsLinesFault, Printed as Lines}
use Rattle.clr_process_io.specs.declared.faults.RunFault.{RunFault}
use Rattle.clr_process_io.specs.declared.faults.RunFault.TheVariants as run_fault
use Rattle.clr_office.specs.Output.{Output}
use Rattle.clr_desk_prints.specs.Printing.{AreLinesAsNotes, IsMadePrintout, IsPrintoutFault, IsPrintoutIn, IsPrintoutOfCase, PrintoutOrFault, as_notes}
use Rattle.clr_desk_prints.specs.Printing.{of_fault}
use Rattle.clr_desk_prints.specs.Printing.{of_why}
use Rattle.clr_desk_prints.specs.declared.prints.Print.{Print}

module _ (Q : Lines → Type 0) (P : PrintoutOrFault → Type 0) (leads : (lines : Lines) → Q lines → P (as_notes lines)) where
  fault_noted : (e : RunFault) → IsLinesFault Q e → IsPrintoutFault P e
  fault_noted (run_fault.BadOffice f) h = leads (Err (run_fault.BadOffice f)) h
  fault_noted (run_fault.BadScript number f) h = leads (Err (run_fault.BadScript number f)) h
  fault_noted (run_fault.BadCertificate number f) h = leads (Err (run_fault.BadCertificate number f)) h
  fault_noted run_fault.OutOfMemory h = tt
  fault_noted run_fault.ReadFailed h = absurd h
  fault_noted run_fault.WriteFailed h = absurd h
  fault_noted run_fault.TooLong h = absurd h
  fault_noted run_fault.NoSeparator h = absurd h

  -- lines that are made of one are notes that are made of the other
  pub noted : (answer : Result Output RunFault) (result : Result Print RunFault) → AreLinesMade Q answer → AreLinesAsNotes answer result →
      IsMadePrintout P result
  noted (Ok output) (Ok print) made are = subst P (sym are) (leads _ made)
  noted (Ok output) (Err f) made are = absurd are
  noted (Err e) (Ok print) made are = absurd are
  noted (Err e) (Err f) made are = subst (IsPrintoutFault P) (sym are) (fault_noted e made)

-- of an office text that gives no office whose broken needs are known
pub office_fault : (P : Office → PrintoutOrFault → Type 0) (given : Opened) (answer : Result Output RunFault) (result : Result Print RunFault)
    → AreLinesMade (IsLinesIn IsNoPrint given) answer → AreLinesAsNotes answer result → IsMadePrintout (IsPrintoutIn P given) result
office_fault P given = noted (IsLinesIn IsNoPrint given) (IsPrintoutIn P given) (λ lines h. of_fault lines h refl)

-- of texts that don't give an office with a certificate
module _ (P : Office → Certificate → PrintoutOrFault → Type 0) (given : Case) where
  -- want of memory may come in place of anything
  lost : (answer : Result Output RunFault) (result : Result Print RunFault) → AreLinesMade (λ print. print ≡ Err run_fault.OutOfMemory) answer
      → AreLinesAsNotes answer result
      → IsMadePrintout (IsPrintoutOfCase P given) result
  lost (Ok output) result h are = absurd cc
  lost (Err e) (Ok print) h are = absurd are
  lost (Err e) (Err f) h are = subst (IsPrintoutFault (IsPrintoutOfCase P given)) (sym are) (by e h)
    where
      by : (e : RunFault) → IsLinesFault (λ print. print ≡ Err run_fault.OutOfMemory) e → IsPrintoutFault (IsPrintoutOfCase P given) e
      by (run_fault.BadOffice f) h = absurd cc
      by (run_fault.BadScript number f) h = absurd cc
      by (run_fault.BadCertificate number f) h = absurd cc
      by run_fault.OutOfMemory h = tt
      by run_fault.ReadFailed h = absurd h
      by run_fault.WriteFailed h = absurd h
      by run_fault.TooLong h = absurd h
      by run_fault.NoSeparator h = absurd h

  told : (w : CaseFault) → given ≡ Err w → (answer : Result Output RunFault) (result : Result Print RunFault)
      → AreLinesMade (λ print. print ≡ fault_print w) answer
      → AreLinesAsNotes answer result → IsMadePrintout (IsPrintoutOfCase P given) result
  told w is = noted (λ print. print ≡ fault_print w) (IsPrintoutOfCase P given) (λ lines e. of_why w is (ap as_notes e))

  pub case_fault : (w : CaseFault) → IsCaseFault given w → (answer : Result Output RunFault) (result : Result Print RunFault)
      → AreLinesMade (λ print. print ≡ fault_print w) answer → AreLinesAsNotes answer result → IsMadePrintout (IsPrintoutOfCase P given) result
  case_fault (no_case.BadOffice e) is = told (no_case.BadOffice e) is
  case_fault (no_case.Unheld o position need) is = told (no_case.Unheld o position need) is
  case_fault (no_case.BadCertificate number e) is = told (no_case.BadCertificate number e) is
  case_fault no_case.OutOfMemory is = lost
