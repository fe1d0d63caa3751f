-- What is made for an office text, by what is made of its office.
use Rattle.std.proofs.Common.{◌≡◌, ℕ, List, [], Option, None, Some, Result, Ok, Err, OnOk, refl, sym, subst}
use Rattle.clr_rules.specs.declared.needs.Broken.{Broken}
use Rattle.clr_workspaces.specs.Marks.{Name}
use Rattle.clr_steps.specs.Offices.{Office}
use Rattle.clr_office_texts.specs.Drafts.{Opened}
use Rattle.clr_process_io.specs.declared.faults.RunFault.{RunFault}
use Rattle.clr_process_io.specs.declared.faults.RunFault.TheVariants as run_fault
use Rattle.clr_office_reports.specs.declared.outputs.Output.{Output}
use Rattle.clr_office_reports.specs.Printing.{IsNoPrint, IsOutput, IsPrintIn, IsPrintWhereHeld, IsTextFault, Printed}
use Rattle.clr_office.specs.NameHints.{AreHintsIn, AreHintsWhereHeld, AreNameHints}

module _ (P Q : Printed → Type 0) (leads : (print : Printed) → P print → Q print) where
  weaker_fault : (e : RunFault) → IsTextFault P e → IsTextFault Q e
  weaker_fault (run_fault.BadOffice f) h = leads _ h
  weaker_fault (run_fault.BadScript number f) h = leads _ h
  weaker_fault (run_fault.BadCertificate number f) h = leads _ h
  weaker_fault run_fault.OutOfMemory h = tt
  weaker_fault run_fault.ReadFailed h = h
  weaker_fault run_fault.WriteFailed h = h
  weaker_fault run_fault.TooLong h = h
  weaker_fault run_fault.NoSeparator h = h

  -- what is made for one print is made for another to which it leads
  pub weaker_made : (answer : Result Output RunFault) → IsOutput P answer → IsOutput Q answer
  weaker_made (Ok output) h = leads _ h
  weaker_made (Err e) h = weaker_fault e h

module _ (P : Office → Printed → Type 0) (meant : Opened) (o : Office) (is : meant ≡ Ok (o, None)) where
  opened : (print : Printed) → P o print → IsPrintIn P meant print
  opened print h = subst (λ m. IsPrintIn P m print) (sym is) h

  -- an office whose broken needs are known
  pub held_made : (answer : Result Output RunFault) → IsOutput (P o) answer → IsOutput (IsPrintIn P meant) answer
  held_made answer = weaker_made (P o) (IsPrintIn P meant) opened answer

-- hints at names of an office whose broken needs are known
pub hints_opened : (names : List Name) (meant : Opened) (o : Office) → meant ≡ Ok (o, None) → (lines : List ℕ) → AreNameHints o names lines
    → AreHintsIn names meant lines
hints_opened names meant o is lines h = subst (λ m. AreHintsIn names m lines) (sym is) h

none_where : (names : List Name) (o : Office) (first : Option (ℕ × Broken)) (print : Printed) → IsPrintWhereHeld IsNoPrint o first print
    → AreHintsWhereHeld names o first []
none_where names o (Some unheld) print _ = refl
none_where names o None print h = absurd h

-- where something is printed in place of what is asked of an office, there are no hints
pub no_hints : (names : List Name) (meant : Opened) (print : Printed) → IsPrintIn IsNoPrint meant print → AreHintsIn names meant []
no_hints names (Err e) print _ = refl
no_hints names (Ok (o, unheld)) print h = none_where names o unheld print h

pub no_hints_made : (names : List Name) (meant : Opened) (answer : Result Output RunFault) → IsOutput (IsPrintIn IsNoPrint meant) answer
    → OnOk answer (AreHintsIn names meant [])
no_hints_made names meant (Ok output) h = no_hints names meant _ h
no_hints_made names meant (Err e) _ = tt
