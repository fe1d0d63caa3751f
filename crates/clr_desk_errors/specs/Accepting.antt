-- An office with its errors accepted.
use Rattle.std.specs.Prelude.{◌≡◌, ◌↔◌, ℕ, List, [], ◌++◌, codes, Contains, None, Result, Ok, Err, false, length}
use Rattle.clr_rules.specs.declared.needs.Broken.{Broken}
use Rattle.clr_steps.specs.Offices.{Office}
use Rattle.clr_engine.specs.BrokenNow.{IsBrokenNow}
use Rattle.clr_rule_text.specs.declared.faults.TextFault.{TextFault}
use Rattle.clr_office_reading.specs.Offices.{known_in}
use Rattle.clr_office_texts.specs.BrokenNow.{broken_now}
use Rattle.clr_office_texts.specs.Drafts.{draft_in, opened_in}
use Rattle.clr_office_reports.specs.Outcomes.{dump_text}
use Rattle.clr_lines.specs.Reports.{count_line}
use Rattle.clr_old_errors.specs.RuleCounts.{rule_counts_text}
use Rattle.clr_process_io.specs.declared.faults.RunFault.TheVariants as run_fault
use Rattle.clr_desk_prints.specs.Printing.{PrintoutOrFault, printout_of}

-- what is printed of an office whether its rules hold or not, or that the text is no office
pub data IsPrintoutOfDraft (IsPrint : Office → PrintoutOrFault → Type 0) (given : Result Office TextFault) (print : PrintoutOrFault) : Type 0 where
  of_draft : (o : Office) → given ≡ Ok o → IsPrint o print → IsPrintoutOfDraft IsPrint given print
  of_no_office : (fault : TextFault) → given ≡ Err fault → print ≡ Err (run_fault.BadOffice fault) → IsPrintoutOfDraft IsPrint given print

-- the text of an office in which just those needs are known that are broken: it is read as the same office, which is admitted
pub record IsAccepted (o : Office) (text : List ℕ) : Type 0 where
  pub bytes : text ≡ dump_text o
  pub again : draft_in text ≡ Ok o
  pub known : (need : Broken) → Contains (known_in text) need ↔ IsBrokenNow o need
  pub admitted : opened_in text ≡ Ok (o, None)

-- the text of the office alone, with status 0
abbrev pub IsAcceptPrint : Office → PrintoutOrFault → Type 0
IsAcceptPrint o print = (text : List ℕ) × IsAccepted o text × (print ≡ printout_of text [] false false)

-- how many needs are accepted, in all and of each rule that has some
abbrev pub accepted_text : Office → List ℕ
accepted_text o = count_line (codes "accepted") (length (broken_now o)) ++ rule_counts_text o.schema o.book (broken_now o)

-- the text of the office, and as notes how many needs are accepted
abbrev pub IsAcceptedPrint : Office → PrintoutOrFault → Type 0
IsAcceptedPrint o print = (text : List ℕ) × IsAccepted o text × (print ≡ printout_of text (accepted_text o) false false)
