-- What is printed of the office of a text that was opened.
use Rattle.std.proofs.Common.{◌≡◌, List, ℕ, None, Result, Ok, Err, ap}
use Rattle.clr_steps.specs.Offices.{Office}
use Rattle.clr_engine.specs.Drafts.{unheld_in}
use Rattle.clr_readings.specs.Readings.{◌>>=◌}
use Rattle.clr_rule_text.specs.declared.faults.TextFault.{TextFault}
use Rattle.clr_office_reading.specs.Offices.{known_in}
use Rattle.clr_office_texts.specs.Drafts.{Opened, draft_in, opened_in}
use Rattle.clr_process_io.specs.declared.faults.RunFault.{RunFault}
use Rattle.clr_process_io.specs.declared.faults.RunFault.TheVariants as run_fault
use Rattle.clr_desk_prints.specs.declared.prints.Print.{Print}
use Rattle.clr_desk_prints.specs.Printing.{IsMadePrintout, IsPrintoutIn, PrintoutOrFault, of_office}

-- a draft of the text, with the first need that it breaks and that isn't known
abbrev opened_of : List ℕ → Office → Opened
opened_of text p = Ok (p, unheld_in p (known_in text))

draft_within : Opened → Result Office TextFault
draft_within (Ok q) = Ok (q.0)
draft_within (Err fault) = Err fault

-- an opened office is the draft of the text
pub draft_of_opened : (text : List ℕ) (o : Office) → opened_in text ≡ Ok (o, None) → draft_in text ≡ Ok o
unfolding opened_in draft_within
draft_of_opened text o is = by (draft_in text) is
  where
    by : (read : Result Office TextFault) → (read >>= opened_of text) ≡ Ok (o, None) → read ≡ Ok o
    by (Ok p) e = ap draft_within e
    by (Err fault) e = ap draft_within e

-- what is made of an opened office is what is to be made of its text
pub in_office : (P : Office → PrintoutOrFault → Type 0) (given : Opened) (o : Office) (result : Result Print RunFault) → given ≡ Ok (o, None)
    → IsMadePrintout (P o) result → IsMadePrintout (IsPrintoutIn P given) result
in_office P given o (Ok print) is made = of_office o is made
in_office P given o (Err run_fault.ReadFailed) is made = of_office o is made
in_office P given o (Err run_fault.WriteFailed) is made = of_office o is made
in_office P given o (Err run_fault.TooLong) is made = of_office o is made
in_office P given o (Err run_fault.NoSeparator) is made = of_office o is made
in_office P given o (Err (run_fault.BadOffice fault)) is made = of_office o is made
in_office P given o (Err (run_fault.BadScript number fault)) is made = of_office o is made
in_office P given o (Err (run_fault.BadCertificate number fault)) is made = of_office o is made
in_office P given o (Err run_fault.OutOfMemory) is made = tt
