-- What is printed of merges that a certificate clears: the office that they leave alone.
use Rattle.std.specs.Prelude.{◌≡◌, ℕ, not, ◌||◌, List, [], ◌∷◌, ◌++◌, Option, is_some}
use Rattle.std.specs.List.{flat_map, list_any}
use Rattle.clr_workspaces.specs.Marks.{Name}
use Rattle.clr_steps.specs.declared.commands.Reply.{Reply}
use Rattle.clr_steps.specs.Offices.{Office}
use Rattle.clr_steps.specs.Steps.{is_lost}
use Rattle.clr_clearance.specs.declared.verdicts.Verdict.{Verdict}
use Rattle.clr_cert.specs.declared.certificates.Certificate.{Certificate}
use Rattle.clr_check.specs.Answers.{IsRefusingVerdict}
use Rattle.clr_merge_sets.specs.Certificates.{entries_in, ordered_merge_set_of}
use Rattle.clr_lines.specs.Replies.{reply_text}
use Rattle.clr_lines.specs.Verdicts.{verdict_text_in_turn}
use Rattle.clr_office.specs.Clearances.{AreMerged, is_clear, is_without_memory, stop_text}
use Rattle.clr_office_reports.specs.Outcomes.{dump_text, is_refused}
use Rattle.clr_desk_merges.specs.Waiting.{waiting_text}
use Rattle.clr_desk_prints.specs.NameHints.{IsHinted}
use Rattle.clr_desk_prints.specs.Printing.{PrintoutOrFault, printout_of}

-- the text of the office that is left, and as notes a line of each reply, that of the stop, and the member for which the merge waits that wasn't made
abbrev pub merge_print : Certificate → List Name → List Reply → Option ℕ → Office → PrintoutOrFault
merge_print c names replies stopped left =
    printout_of (dump_text left) (flat_map (reply_text left.schema) replies ++ stop_text stopped ++ waiting_text (ordered_merge_set_of c) names replies)
    (list_any is_refused replies || is_some stopped) (list_any is_lost replies)

-- no office, and as notes the line of a verdict that isn't clear
abbrev pub verdict_print : Office → Certificate → Verdict → PrintoutOrFault
verdict_print o c v = printout_of [] (verdict_text_in_turn o.schema c.members c.before c.root v) (not (is_clear v)) (is_without_memory v)

-- merges in the order of the names, as far as they are quiet for the certificate; where it isn't clear, none
pub data IsMergePrintout (names : List Name) (o : Office) (c : Certificate) (print : PrintoutOrFault) : Type 0 where
  of_merges : (replies : List Reply) (stopped : Option ℕ) (left : Office) → AreMerged o c names replies stopped left
      → print ≡ merge_print c names replies stopped left → IsMergePrintout names o c print
  of_verdict : (v : Verdict) → IsRefusingVerdict o (ordered_merge_set_of c) (entries_in c.entries) v → print ≡ verdict_print o c v
      → IsMergePrintout names o c print

-- the printout of a merge, and behind its notes hints at names that no workspace of the office that was read has
abbrev pub IsHintedMerge : List Name → Office → Certificate → PrintoutOrFault → Type 0
IsHintedMerge names o c print = IsHinted (λ read. IsMergePrintout names read c) (c.root ∷ names) o print
