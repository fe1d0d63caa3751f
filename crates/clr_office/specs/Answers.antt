-- What the program prints for what is asked of one or two texts.
use Rattle.std.specs.Prelude.{◌≡◌, ℕ, Bool, true, false, ◌||◌, List, Option, Result, Ok, Err, length, nat_lt}
use Rattle.std.specs.Io.KnownBytes.{Appends}
use Rattle.clr_rows.specs.Names.{live_name}
use Rattle.clr_rules.specs.Needs.{broken_needs}
use Rattle.clr_steps.specs.Offices.{Office}
use Rattle.clr_steps.specs.Quiet.{MergeSet}
use Rattle.clr_merge_sets.specs.MergeSetNames.{merge_set}
use Rattle.clr_lines.specs.Reports.{audit_text}
use Rattle.clr_check.specs.Cases.{case_of}
use Rattle.clr_office_texts.specs.Drafts.{draft_in, opened_in}
use Rattle.clr_rule_text.specs.declared.faults.TextFault.{TextFault}
use Rattle.clr_command_line.specs.declared.asks.Ask.{Ask}
use Rattle.clr_command_line.specs.declared.asks.Ask.TheVariants as ask
use Rattle.clr_command_line.specs.declared.asks.Orders.{Orders}
use Rattle.clr_office.specs.Outcomes.{IsPlanOutcome}
use Rattle.clr_office.specs.Scripts.{IsScriptPrint}
use Rattle.clr_office_reports.specs.Printing.{Printed, print_of, IsPrintIn, IsPrintOf, IsTextFault}
use Rattle.clr_office.specs.Clearances.{IsCheckPrint, IsMergePrint}
use Rattle.clr_process_io.specs.declared.faults.RunFault.{RunFault}
use Rattle.clr_process_io.specs.declared.faults.RunFault.TheVariants as run_fault
use Rattle.clr_process_io.specs.declared.reading.TheConstants.{MOST_INPUT_BYTES}

-- the needs of LIVE that no row serves, and whether there are any, also where a rule doesn't hold
abbrev pub audit_print : Office → Printed
audit_print o = let needs = broken_needs o.book o.live in print_of (audit_text o.schema needs) (nat_lt 0 (length needs)) false

unfoldable pub audit_of : Result Office TextFault → Printed
audit_of (Err fault) = Err (run_fault.BadOffice fault)
audit_of (Ok o) = audit_print o

abbrev pub IsPlanPrint : Orders → MergeSet → Office → Printed → Type 0
IsPlanPrint orders s o print = IsPrintOf (IsPlanOutcome orders o s) print

-- what is to be printed for what is asked of an office text and a second text
abbrev pub IsAnswerWithin : Ask → List ℕ → List ℕ → Printed → Type 0
IsAnswerWithin ask.Audit office second print = print ≡ audit_of (draft_in office)
IsAnswerWithin ask.Run office script print = IsPrintIn (IsScriptPrint script) (opened_in office) print
IsAnswerWithin (ask.Plan orders names) office second print = IsPrintIn (IsPlanPrint orders (merge_set live_name names)) (opened_in office) print
IsAnswerWithin (ask.PlanUnder orders root names) office second print = IsPrintIn (IsPlanPrint orders (merge_set root names)) (opened_in office) print
IsAnswerWithin ask.Check office certificate print = IsCheckPrint (case_of office certificate) print
IsAnswerWithin (ask.Merge names) office certificate print = IsMergePrint names (case_of office certificate) print

abbrev pub is_too_long : List ℕ → Bool
is_too_long text = nat_lt MOST_INPUT_BYTES (length text)

-- what is to be printed for what is asked of two texts, where `too_long` says whether one of them is too long
abbrev pub IsAnswerIf : Bool → Ask → List ℕ → List ℕ → Printed → Type 0
IsAnswerIf true asked office second print = print ≡ Err run_fault.TooLong
IsAnswerIf false asked office second print = IsAnswerWithin asked office second print

abbrev pub IsAnswerTo : Ask → List ℕ → List ℕ → Printed → Type 0
IsAnswerTo asked office second print = IsAnswerIf (is_too_long office || is_too_long second) asked office second print

-- why what is asked has no exit status, where `failed` says whether the writer failed
abbrev pub IsNoAnswer : (Printed → Type 0) → Bool → RunFault → Type 0
IsNoAnswer IsPrint failed run_fault.WriteFailed = failed ≡ true
IsNoAnswer IsPrint failed run_fault.TooLong = IsPrint (Err run_fault.TooLong)
IsNoAnswer IsPrint failed e = IsTextFault IsPrint e

-- the answer to what is asked: its lines went out, or it has this fault
abbrev pub IsPrintedAnswer : (Printed → Type 0) → Option (List ℕ) → Option (List ℕ) → Bool → Result ℕ RunFault → Type 0
IsPrintedAnswer IsPrint held holds failed (Ok status) = (failed ≡ false) × ((lines : List ℕ) × IsPrint (Ok (lines, status)) × Appends held holds lines)
IsPrintedAnswer IsPrint held holds failed (Err e) = IsNoAnswer IsPrint failed e
