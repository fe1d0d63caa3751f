-- What is made of what two texts give: of why they don't give both, and of an office with a certificate.
use Rattle.std.proofs.Common.{◌≡◌, ℕ, not, ◌||◌, List, [], Option, Result, Ok, Err, OnOk, is_some, length, take, refl, sym, subst}
use Rattle.std.specs.List.{list_any}
use Rattle.clr_workspaces.specs.Marks.{Name}
use Rattle.clr_steps.specs.declared.commands.Command.{Command}
use Rattle.clr_steps.specs.declared.commands.Reply.{Reply}
use Rattle.clr_steps.specs.Offices.{Office}
use Rattle.clr_steps.specs.Steps.{is_lost}
use Rattle.clr_clearance.specs.declared.verdicts.Verdict.{Verdict}
use Rattle.clr_clearance.specs.declared.verdicts.Verdict.TheVariants as verdict
use Rattle.clr_clearance.specs.Plans.{merges}
use Rattle.clr_ordered_clearance.specs.Runs.{IsClearedRunInTurn, IsQuietStartInTurn}
use Rattle.clr_ordered_clearance.specs.VerdictLaws.{RunsAreClearedInTurn}
use Rattle.clr_ordered_clearance.specs.Verdicts.{IsVerdictInTurn}
use Rattle.clr_cert.specs.declared.certificates.Certificate.{Certificate}
use Rattle.clr_check.specs.Answers.{IsRefusingVerdict}
use Rattle.clr_merge_sets.specs.Certificates.{entries_in, ordered_merge_set_of}
use Rattle.clr_check.specs.Cases.{Case, IsCaseFault}
use Rattle.clr_check.specs.TextChecks.{IsCheckedVerdict}
use Rattle.clr_check.specs.declared.cases.CaseFault.{CaseFault}
use Rattle.clr_check.specs.declared.cases.CaseFault.TheVariants as no_case
use Rattle.clr_lines.specs.Verdicts.{verdict_text_in_turn}
use Rattle.clr_process_io.specs.declared.faults.RunFault.{RunFault}
use Rattle.clr_process_io.specs.declared.faults.RunFault.TheVariants as run_fault
use Rattle.clr_office_reports.specs.declared.outputs.Output.{Output}
use Rattle.clr_office.specs.Clearances.{AreMerged, IsMergeOutcome, IsPrintOfCase, IsVerdictOutcome, fault_print, is_clear, is_without_memory}
use Rattle.clr_office.specs.Clearances.{merge_text, of_merges, of_verdict as of_verdict_alone, verdict_outcome}
use Rattle.clr_office.specs.NameHints.{AreHintsOfCase}
use Rattle.clr_office_reports.specs.Outcomes.{Outcome, is_refused, outcome_of}
use Rattle.clr_office_reports.specs.Printing.{IsOutput, Printed, print_of}
use Rattle.clr_office_reports.proofs.Outcomes.{parts_are}
use Rattle.clr_office.proofs.Prints.{weaker_made}

-- want of memory may come in place of what is made for any print
lost_made : (P : Printed → Type 0) (answer : Result Output RunFault) → IsOutput (λ print. print ≡ Err run_fault.OutOfMemory) answer → IsOutput P answer
lost_made P (Ok output) h = absurd cc
lost_made P (Err (run_fault.BadOffice e)) h = absurd cc
lost_made P (Err (run_fault.BadScript number e)) h = absurd cc
lost_made P (Err (run_fault.BadCertificate number e)) h = absurd cc
lost_made P (Err run_fault.OutOfMemory) h = tt
lost_made P (Err run_fault.ReadFailed) h = h
lost_made P (Err run_fault.WriteFailed) h = h
lost_made P (Err run_fault.TooLong) h = h
lost_made P (Err run_fault.NoSeparator) h = h

module _ (IsRight : Office → Certificate → Outcome → Type 0) (given : Case) where
  -- the texts don't give both
  why_made : (why : CaseFault) → given ≡ Err why → (answer : Result Output RunFault) → IsOutput (λ print. print ≡ fault_print why) answer
      → IsOutput (IsPrintOfCase IsRight given) answer
  why_made why is answer =
      weaker_made (λ print. print ≡ fault_print why) (IsPrintOfCase IsRight given) (λ print h. subst (λ g. IsPrintOfCase IsRight g print) (sym is) h) answer

  pub fault_made : (why : CaseFault) → IsCaseFault given why → (answer : Result Output RunFault) → IsOutput (λ print. print ≡ fault_print why) answer
      → IsOutput (IsPrintOfCase IsRight given) answer
  fault_made (no_case.BadOffice e) is = why_made (no_case.BadOffice e) is
  fault_made (no_case.Unheld o position need) is = why_made (no_case.Unheld o position need) is
  fault_made (no_case.BadCertificate number e) is = why_made (no_case.BadCertificate number e) is
  fault_made no_case.OutOfMemory is = lost_made (IsPrintOfCase IsRight given)

  -- texts that give an office and a certificate
  pub case_made : (o left : Office) (c : Certificate) (output : Output) → given ≡ Ok (o, c) → IsRight o c (outcome_of output left)
      → IsOutput (IsPrintOfCase IsRight given) (Ok output)
  case_made o left c output is h =
      subst (λ g. IsPrintOfCase IsRight g (print_of output.lines.items output.refused output.lost)) (sym is) (outcome_of output left, h, refl)

module _ (names : List Name) (given : Case) where
  why_hints : (why : CaseFault) → given ≡ Err why → AreHintsOfCase names given []
  why_hints why is = subst (λ g. AreHintsOfCase names g []) (sym is) refl

  -- where the texts don't give both, there are no hints
  pub no_case_hints : (why : CaseFault) → IsCaseFault given why → (answer : Result Output RunFault) → IsOutput (λ print. print ≡ fault_print why) answer
      → OnOk answer (AreHintsOfCase names given [])
  no_case_hints why is (Err e) _ = tt
  no_case_hints (no_case.BadOffice e) is (Ok output) _ = why_hints (no_case.BadOffice e) is
  no_case_hints (no_case.Unheld o position need) is (Ok output) _ = why_hints (no_case.Unheld o position need) is
  no_case_hints (no_case.BadCertificate number e) is (Ok output) _ = why_hints (no_case.BadCertificate number e) is
  no_case_hints no_case.OutOfMemory is (Ok output) h = absurd cc

module _ (o : Office) (c : Certificate) (v : Verdict) (output : Output)
    (lines : output.lines.items ≡ verdict_text_in_turn o.schema c.members c.before c.root v) (refused : output.refused ≡ not (is_clear v)) (lost : output.lost
    ≡ is_without_memory v) where
  of_verdict : outcome_of output o ≡ verdict_outcome o c v
  of_verdict = parts_are o _ _ _ _ _ _ lines refused lost

  pub checked : IsCheckedVerdict o c v → IsVerdictOutcome o c (outcome_of output o)
  checked judged = (v, judged, of_verdict)

  -- no merge is performed
  pub not_merged : (names : List Name) → IsRefusingVerdict o (ordered_merge_set_of c) (entries_in c.entries) v → IsMergeOutcome o c names (outcome_of output o)
  not_merged names refusal = of_verdict_alone v refusal of_verdict

module _ (o left : Office) (c : Certificate) (names : List Name) (commands : List Command) (replies : List Reply) (stopped : Option ℕ) (output : Output) where
  -- merges are performed
  pub merged : commands ≡ merges names → IsVerdictInTurn o (ordered_merge_set_of c) (entries_in c.entries) verdict.Clear
      → IsQuietStartInTurn o (ordered_merge_set_of c) commands replies left stopped
      → IsClearedRunInTurn o (ordered_merge_set_of c) (take (length replies) commands) replies left
      → RunsAreClearedInTurn o (ordered_merge_set_of c)
      → output.lines.items ≡ merge_text replies stopped left → output.refused ≡ (list_any is_refused replies || is_some stopped) → output.lost
      ≡ list_any is_lost replies
      → IsMergeOutcome o c names (outcome_of output left)
  merged are clear start ran runs lines refused lost =
      let all : AreMerged o c names replies stopped left = record {
        clear = clear;
        start = subst (λ cs. IsQuietStartInTurn o (ordered_merge_set_of c) cs replies left stopped) are start;
        run = subst (λ cs. IsClearedRunInTurn o (ordered_merge_set_of c) (take (length replies) cs) replies left) are ran;
        runs = runs;
      } in
      of_merges replies stopped left all (parts_are left _ _ _ _ _ _ lines refused lost)
