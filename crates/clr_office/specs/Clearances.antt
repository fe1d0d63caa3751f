-- What is printed of a certificate over an office: the verdict on it, and merges that it clears.
use Rattle.std.specs.Prelude.{◌≡◌, ℕ, Bool, true, false, not, ◌||◌, List, [], ◌++◌, Option, Some, None, Ok, Err, codes, is_some, length, take}
use Rattle.std.specs.List.{flat_map, list_any}
use Rattle.clr_workspaces.specs.Marks.{Name}
use Rattle.clr_steps.specs.declared.commands.Reply.{Reply}
use Rattle.clr_steps.specs.Offices.{Office}
use Rattle.clr_steps.specs.Steps.{is_lost}
use Rattle.clr_clearance.specs.declared.verdicts.Verdict.{Verdict}
use Rattle.clr_clearance.specs.declared.verdicts.Verdict.TheVariants as verdict
use Rattle.clr_ordered_clearance.specs.Runs.{IsClearedRunInTurn, IsQuietStartInTurn}
use Rattle.clr_ordered_clearance.specs.VerdictLaws.{RunsAreClearedInTurn}
use Rattle.clr_ordered_clearance.specs.Verdicts.{IsVerdictInTurn}
use Rattle.clr_clearance.specs.Plans.{merges}
use Rattle.clr_cert.specs.declared.certificates.Certificate.{Certificate}
use Rattle.clr_check.specs.Answers.{IsRefusingVerdict}
use Rattle.clr_merge_sets.specs.Certificates.{entries_in, ordered_merge_set_of}
use Rattle.clr_check.specs.Cases.{Case}
use Rattle.clr_check.specs.TextChecks.{IsCheckedVerdict}
use Rattle.clr_check.specs.declared.cases.CaseFault.{CaseFault}
use Rattle.clr_check.specs.declared.cases.CaseFault.TheVariants as no_case
use Rattle.clr_lines.specs.Replies.{reply_text}
use Rattle.clr_lines.specs.Reports.{count_line}
use Rattle.clr_lines.specs.Verdicts.{verdict_text_in_turn}
use Rattle.clr_office_reports.specs.Outcomes.{Outcome, dump_text, is_refused, outcome}
use Rattle.clr_office_reports.specs.Printing.{IsPrintOf, Printed, unheld_print}
use Rattle.clr_process_io.specs.declared.faults.RunFault.TheVariants as run_fault

-- verdicts -----------------------------------------------------------------------------------

abbrev pub is_clear : Verdict → Bool
is_clear verdict.Clear = true
is_clear _ = false

abbrev pub is_without_memory : Verdict → Bool
is_without_memory verdict.OutOfMemory = true
is_without_memory _ = false

-- the outcome of a verdict: its line; all but a clear one counts as a refusal
abbrev pub verdict_outcome : Office → Certificate → Verdict → Outcome
verdict_outcome o c v = outcome (verdict_text_in_turn o.schema c.members c.before c.root v) (not (is_clear v)) (is_without_memory v) o

-- the outcome of some verdict on a certificate; where it is clear, the members are safe where they are merged in turn, and a run of quiet commands in which
-- merges come in turn is a cleared one
abbrev pub IsVerdictOutcome : Office → Certificate → Outcome → Type 0
IsVerdictOutcome o c all = (v : Verdict) × IsCheckedVerdict o c v × (all ≡ verdict_outcome o c v)

-- merges -------------------------------------------------------------------------------------

-- the line that says which merge, from 1, isn't quiet, or comes before its turn, so that it and those behind it aren't performed
abbrev pub stop_text : Option ℕ → List ℕ
stop_text None = []
stop_text (Some number) = count_line (codes "notquiet") number

-- merges of workspaces in this order, each of which is kept, as far as they are quiet for a clear certificate and come in turn; in the office as it was any
-- run of quiet commands in which merges come in turn is a cleared one
pub record AreMerged (o : Office) (c : Certificate) (names : List Name) (replies : List Reply) (stopped : Option ℕ) (left : Office) : Type 0 where
  pub clear : IsVerdictInTurn o (ordered_merge_set_of c) (entries_in c.entries) verdict.Clear
  pub start : IsQuietStartInTurn o (ordered_merge_set_of c) (merges names) replies left stopped
  pub run : IsClearedRunInTurn o (ordered_merge_set_of c) (take (length replies) (merges names)) replies left
  pub runs : RunsAreClearedInTurn o (ordered_merge_set_of c)

-- a line of each reply, that of the stop, and the text of the office that is left
abbrev pub merge_text : List Reply → Option ℕ → Office → List ℕ
merge_text replies stopped left = flat_map (reply_text left.schema) replies ++ stop_text stopped ++ dump_text left

abbrev pub merge_outcome : List Reply → Option ℕ → Office → Outcome
merge_outcome replies stopped left = outcome (merge_text replies stopped left) (list_any is_refused replies || is_some stopped) (list_any is_lost replies) left

-- where the verdict isn't clear, nothing is performed, and its line stands alone
pub data IsMergeOutcome (o : Office) (c : Certificate) (names : List Name) (all : Outcome) : Type 0 where
  of_merges : (replies : List Reply) (stopped : Option ℕ) (left : Office) → AreMerged o c names replies stopped left
      → all ≡ merge_outcome replies stopped left → IsMergeOutcome o c names all
  of_verdict : (v : Verdict) → IsRefusingVerdict o (ordered_merge_set_of c) (entries_in c.entries) v → all ≡ verdict_outcome o c v
      → IsMergeOutcome o c names all

-- texts --------------------------------------------------------------------------------------

-- what is printed where two texts don't give an office with a certificate
abbrev pub fault_print : CaseFault → Printed
fault_print (no_case.BadOffice e) = Err (run_fault.BadOffice e)
fault_print (no_case.Unheld o position need) = unheld_print o position need
fault_print (no_case.BadCertificate number e) = Err (run_fault.BadCertificate number e)
fault_print no_case.OutOfMemory = Err run_fault.OutOfMemory

-- what is printed of the office and the certificate that two texts give, or of their fault
abbrev pub IsPrintOfCase : (Office → Certificate → Outcome → Type 0) → Case → Printed → Type 0
IsPrintOfCase IsRight (Ok given) print = IsPrintOf (IsRight given.0 given.1) print
IsPrintOfCase IsRight (Err why) print = print ≡ fault_print why

abbrev pub IsCheckPrint : Case → Printed → Type 0
IsCheckPrint given print = IsPrintOfCase IsVerdictOutcome given print

abbrev pub IsMergePrint : List Name → Case → Printed → Type 0
IsMergePrint names given print = IsPrintOfCase (λ o c all. IsMergeOutcome o c names all) given print
