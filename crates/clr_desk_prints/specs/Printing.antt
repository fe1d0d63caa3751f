-- What is printed: on standard output, on standard error, and the exit status.
use Rattle.std.specs.Prelude.{◌≡◌, ℕ, Bool, true, false, List, [], None, Result, Ok, Err, not, if◌then◌else◌}
use Rattle.clr_steps.specs.Offices.{Office}
use Rattle.clr_steps.specs.Quiet.{MergeSet}
use Rattle.clr_cert.specs.declared.certificates.Certificate.{Certificate}
use Rattle.clr_office.specs.Cases.{Case}
use Rattle.clr_office.specs.CaseFault.{CaseFault}
use Rattle.clr_office.specs.Plan.{Plan}
use Rattle.clr_office.specs.Plans.{is_cleared, is_out_of_memory}
use Rattle.clr_office.specs.Drafts.{Opened}
use Rattle.clr_office.specs.Clearances.{fault_print}
use Rattle.clr_office.specs.Outcomes.{IsPlanned}
use Rattle.clr_office.specs.Printing.{IsNoPrint, status_of}
use Rattle.clr_office.specs.Printing.{IsPrintIn as IsLinesIn, Printed as Lines}
use Rattle.clr_process_io.specs.declared.faults.RunFault.{RunFault}
use Rattle.clr_process_io.specs.declared.faults.RunFault.TheVariants as run_fault
use Rattle.clr_office.specs.Output.{Output}
use Rattle.clr_desk_prints.specs.declared.prints.Ending.{Ending}
use Rattle.clr_desk_prints.specs.declared.prints.Ending.TheVariants as ending
use Rattle.clr_desk_prints.specs.declared.prints.Print.{Print}

-- the text on standard output, the notes on standard error, and the exit status
pub record Printout : Type 0 where
  pub text : List ℕ
  pub notes : List ℕ
  pub status : ℕ

-- what is printed, or why nothing is
abbrev pub PrintoutOrFault : Type 0
PrintoutOrFault = Result Printout RunFault

-- a text, and none where something found no memory
abbrev pub unless_lost : Bool → List ℕ → List ℕ
unless_lost lost text = if lost then [] else text

abbrev pub printout_of : List ℕ → List ℕ → Bool → Bool → PrintoutOrFault
printout_of text notes refused lost = Ok (record { text = unless_lost lost text; notes = notes; status = status_of refused lost })

-- a plan with what it promises, for which memory was found
abbrev pub IsFoundPlan : Office → MergeSet → Plan → Type 0
IsFoundPlan o s p = IsPlanned o s p × (is_out_of_memory p ≡ false)

-- a text that is made of a plan, which counts as a refusal unless the plan is cleared
abbrev pub plan_text_print : List ℕ → Plan → PrintoutOrFault
plan_text_print text p = printout_of text [] (not (is_cleared p)) false

-- the exit status of an ending
abbrev pub status_by : Ending → ℕ
status_by ending.Done = 0
status_by ending.Refused = 1
status_by ending.Unread = 2
status_by ending.Lost = 3
status_by ending.Unheld = 4
status_by ending.Unknown = 5

abbrev pub is_lost_ending : Ending → Bool
is_lost_ending ending.Lost = true
is_lost_ending _ = false

-- what a print puts on both, and its exit status
abbrev pub printed : Print → PrintoutOrFault
printed print = Ok (record { text = unless_lost (is_lost_ending print.ending) print.text.items; notes = print.notes.items; status = status_by print.ending })

-- no text, and as notes the line of a need that is broken and isn't known, which has an exit status of its own
abbrev pub unheld_print : List ℕ → PrintoutOrFault
unheld_print line = Ok (record { text = []; notes = line; status = 4 })

-- what is printed of an office text that isn't looked at: the line that `clr_office` prints of it, or its fault
abbrev pub as_notes : Lines → PrintoutOrFault
as_notes (Ok printed) = unheld_print printed.0
as_notes (Err e) = Err e

-- texts --------------------------------------------------------------------------------------

-- what is printed of an office text: what is asked of its office, or as notes why there is none, or which need is broken and isn't known
pub data IsPrintoutIn (IsPrint : Office → PrintoutOrFault → Type 0) (given : Opened) (print : PrintoutOrFault) : Type 0 where
  of_office : (o : Office) → given ≡ Ok (o, None) → IsPrint o print → IsPrintoutIn IsPrint given print
  of_fault : (lines : Lines) → IsLinesIn IsNoPrint given lines → print ≡ as_notes lines → IsPrintoutIn IsPrint given print

-- what is printed for an office text and a certificate's text
pub data IsPrintoutOfCase (IsPrint : Office → Certificate → PrintoutOrFault → Type 0) (given : Case) (print : PrintoutOrFault) : Type 0 where
  of_case : (o : Office) (c : Certificate) → given ≡ Ok (o, c) → IsPrint o c print → IsPrintoutOfCase IsPrint given print
  of_why : (why : CaseFault) → given ≡ Err why → print ≡ as_notes (fault_print why) → IsPrintoutOfCase IsPrint given print

-- what is made -------------------------------------------------------------------------------

-- a fault that texts have, by what is to be printed of them, or want of memory
abbrev pub IsPrintoutFault : (PrintoutOrFault → Type 0) → RunFault → Type 0
IsPrintoutFault IsPrint run_fault.OutOfMemory = Unit {0}
IsPrintoutFault IsPrint e = IsPrint (Err e)

-- a print is what is to be printed; or a fault
abbrev pub IsMadePrintout : (PrintoutOrFault → Type 0) → Result Print RunFault → Type 0
IsMadePrintout IsPrint (Ok print) = IsPrint (printed print)
IsMadePrintout IsPrint (Err e) = IsPrintoutFault IsPrint e

-- the line of a need that is broken and isn't known, as it was made, as notes
abbrev pub AreLinesAsNotes : Result Output RunFault → Result Print RunFault → Type 0
AreLinesAsNotes (Ok output) (Ok print) = printed print ≡ unheld_print output.lines.items
AreLinesAsNotes (Err e) (Err f) = f ≡ e
AreLinesAsNotes _ _ = ⊥
