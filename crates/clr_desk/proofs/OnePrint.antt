-- What is printed of texts, by what is printed of what they give, is one print alone.
use Rattle.std.proofs.Common.{◌≡◌, ◌≢◌, ◌∙◌, ℕ, Bool, true, false, not, ◌||◌, List, [], ◌∷◌, ◌++◌, Option, Some, None, Result, Ok, Err, ap, refl, subst, sym}
use Rattle.clr_rules.specs.declared.needs.Broken.{Broken}
use Rattle.clr_workspaces.specs.Marks.{Name}
use Rattle.clr_steps.specs.Offices.{Office}
use Rattle.clr_cert.specs.declared.certificates.Certificate.{Certificate}
use Rattle.clr_check.specs.Cases.{Case}
use Rattle.clr_rule_text.specs.declared.faults.TextFault.{TextFault}
use Rattle.clr_office_texts.specs.Drafts.{Opened}
use Rattle.clr_office.specs.Clearances.{fault_print}
use Rattle.clr_office_reports.specs.Printing.{IsNoPrint, IsPrintIn, IsPrintWhereHeld, Printed as Lines}
use Rattle.clr_process_io.specs.declared.faults.RunFault.TheVariants as run_fault
use Rattle.clr_desk_prints.specs.NameHints.{HintsAt, IsHinted, has_unknown, refused_for, status_refused_for, with_lines}
use Rattle.clr_desk_prints.specs.Printing.{IsPrintoutIn, IsPrintoutOfCase, PrintoutOrFault, as_notes, of_case, of_fault, of_office, of_why}
use Rattle.clr_desk_prints.proofs.OneHint.{one_hints}
use Rattle.clr_desk_errors.specs.Accepting.{IsPrintoutOfDraft, of_draft, of_no_office}
use Rattle.clr_desk.specs.OneAnswer.{FoundMemory, IsOnePrint}

-- why an office isn't looked at has one line alone
module _ (line other : Lines) where
  where_held : (o : Office) (u : Option (ℕ × Broken)) → IsPrintWhereHeld IsNoPrint o u line → IsPrintWhereHeld IsNoPrint o u other → line ≡ other
  where_held o (Some (position, need)) one two = one ∙ sym two
  where_held o None one two = absurd one

  one_line : (given : Opened) → IsPrintIn IsNoPrint given line → IsPrintIn IsNoPrint given other → line ≡ other
  one_line (Ok (o, unheld)) one two = where_held o unheld one two
  one_line (Err e) one two = one ∙ sym two

no_line : (o : Office) (given : Opened) → given ≡ Ok (o, None) → (line : Lines) → IsPrintIn IsNoPrint given line → ⊥
no_line o given is line h = subst (λ g. IsPrintIn IsNoPrint g line) is h

-- of an office text
module _ (P : Office → PrintoutOrFault → Type 0) (one_print : (o : Office) → IsOnePrint (P o)) where
  pub one_in : (given : Opened) → IsOnePrint (IsPrintoutIn P given)
  one_in given print other (of_office o is here) (of_office p is_too there) found found_too =
      let e : Ok (p, None) ≡ Ok (o, None) = sym is_too ∙ is in
      let both : (p, None) ≡ (o, None) = cc in
      let same : p ≡ o = ap (λ (x : Office × Option (ℕ × Broken)). x.0) both in
      one_print o print other here (subst (λ q. P q other) same there) found found_too
  one_in given print other (of_office o is here) (of_fault lines there told) found found_too = absurd (no_line o given is lines there)
  one_in given print other (of_fault lines here told) (of_office o is there) found found_too = absurd (no_line o given is lines here)
  one_in given print other (of_fault lines here told) (of_fault others there told_too) found found_too =
      told ∙ ap as_notes (one_line lines others given here there) ∙ sym told_too

-- of an office text, whatever is broken in it
module _ (P : Office → PrintoutOrFault → Type 0) (one_print : (o : Office) → IsOnePrint (P o)) where
  pub one_of_draft : (given : Result Office TextFault) → IsOnePrint (IsPrintoutOfDraft P given)
  one_of_draft given print other (of_draft o is here) (of_draft p is_too there) found found_too =
      let same : p ≡ o = (let e : Ok p ≡ Ok o = sym is_too ∙ is in cc) in
      one_print o print other here (subst (λ q. P q other) same there) found found_too
  one_of_draft given print other (of_draft o is here) (of_no_office fault is_too told) found found_too =
      absurd (let e : Ok o ≡ Err fault = sym is ∙ is_too in cc)
  one_of_draft given print other (of_no_office fault is told) (of_draft o is_too there) found found_too =
      absurd (let e : Ok o ≡ Err fault = sym is_too ∙ is in cc)
  one_of_draft given print other (of_no_office fault is told) (of_no_office another is_too told_too) found found_too =
      let same : fault ≡ another = (let e : Err fault ≡ Err another = sym is ∙ is_too in cc) in
      told ∙ ap (λ why. Err (run_fault.BadOffice why)) same ∙ sym told_too

-- of an office text and the text of a certificate
module _ (P : Office → Certificate → PrintoutOrFault → Type 0) (one_print : (o : Office) (c : Certificate) → IsOnePrint (P o c)) where
  pub one_of_case : (given : Case) → IsOnePrint (IsPrintoutOfCase P given)
  one_of_case given print other (of_case o c is here) (of_case p d is_too there) found found_too =
      let e : Ok (p, d) ≡ Ok (o, c) = sym is_too ∙ is in
      let both : (p, d) ≡ (o, c) = cc in
      let office : p ≡ o = ap (λ (x : Office × Certificate). x.0) both in
      let certificate : d ≡ c = ap (λ (x : Office × Certificate). x.1) both in
      one_print o c print other here (subst (λ q. P q c other) office (subst (λ x. P p x other) certificate there)) found found_too
  one_of_case given print other (of_case o c is here) (of_why why is_too told) found found_too = absurd (let e : Ok (o, c) ≡ Err why = sym is ∙ is_too in cc)
  one_of_case given print other (of_why why is told) (of_case o c is_too there) found found_too = absurd (let e : Ok (o, c) ≡ Err why = sym is_too ∙ is in cc)
  one_of_case given print other (of_why why is told) (of_why way is_too told_too) found found_too =
      let e : Err why ≡ Err way = sym is ∙ is_too in
      let same : why ≡ way = cc in
      told ∙ ap (λ w. as_notes (fault_print w)) same ∙ sym told_too

-- where memory was found for hints and for the status of a name that nothing has, it was found for what is printed of them
stays_lost : (unknown : Bool) → status_refused_for unknown 3 ≡ 3
stays_lost true = refl
stays_lost false = refl

found_bare : (unknown : Bool) (lines : List ℕ) (bare : PrintoutOrFault) → FoundMemory (with_lines lines (refused_for unknown bare)) → FoundMemory bare
found_bare unknown lines (Ok print) found = λ e. found (ap (status_refused_for unknown) e ∙ stays_lost unknown)
found_bare unknown lines (Err e) found = tt

-- with hints
pub one_hinted : (P : Office → PrintoutOrFault → Type 0) (names : List Name) (o : Office) → IsOnePrint (P o) → IsOnePrint (IsHinted P names o)
one_hinted P names o one_print print other (bare, here, (lines, hints, is)) (plain, there, (others, hints_too, is_too)) found found_too =
    let unknown = has_unknown o names in
    let same : bare ≡ plain = one_print bare plain here there
    (found_bare unknown lines bare (subst FoundMemory is found)) (found_bare unknown others plain (subst FoundMemory is_too found_too)) in
    is ∙ (λ i. with_lines (one_hints o names lines others hints hints_too i) (refused_for unknown (same i))) ∙ sym is_too
