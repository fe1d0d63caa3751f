-- What is printed of an office text, and the exit status.
use Rattle.std.specs.Prelude.{◌≡◌, ℕ, zero, suc, Bool, true, false, List, Option, Some, None, Result, Ok, Err, if◌then◌else◌}
use Rattle.clr_rules.specs.declared.needs.Broken.{Broken}
use Rattle.clr_workspaces.specs.Marks.{Name}
use Rattle.clr_steps.specs.Offices.{Office}
use Rattle.clr_steps.specs.Readings.{name_at}
use Rattle.clr_lines.specs.Reports.{unheld_text}
use Rattle.clr_rule_text.specs.declared.faults.TextFault.{TextFault}
use Rattle.clr_office_texts.specs.Drafts.{Opened}
use Rattle.clr_office_reports.specs.Outcomes.{Outcome}
use Rattle.clr_process_io.specs.declared.faults.RunFault.{RunFault}
use Rattle.clr_process_io.specs.declared.faults.RunFault.TheVariants as run_fault
use Rattle.clr_office_reports.specs.declared.outputs.Output.{Output}

-- the exit status of what was answered: 3 where something found no memory, else 1 where something was refused, and 0 where all was done
abbrev pub status_of : Bool → Bool → ℕ
status_of refused lost = if lost then 3 else (if refused then 1 else 0)

-- the lines and the exit status, or why nothing is printed
abbrev pub Printed : Type 0
Printed = Result (List ℕ × ℕ) RunFault

abbrev pub print_of : List ℕ → Bool → Bool → Printed
print_of lines refused lost = Ok (lines, status_of refused lost)

abbrev pub IsPrintOf : (Outcome → Type 0) → Printed → Type 0
IsPrintOf IsRight print = (all : Outcome) × IsRight all × (print ≡ print_of all.lines all.refused all.lost)

-- offices ------------------------------------------------------------------------------------

-- the name of a workspace by its position, and none for LIVE
abbrev pub name_below_live : Office → ℕ → Option Name
name_below_live o zero = None
name_below_live o (suc position) = name_at o (suc position)

-- where a need is broken that isn't known: the line that says so, which counts as a refusal
abbrev pub unheld_print : Office → ℕ → Broken → Printed
unheld_print o position need = print_of (unheld_text o.schema (name_below_live o position) need) true false

-- what is asked of an office whose broken needs are known; the line of one that isn't stands in its place
abbrev pub IsPrintWhereHeld : (Office → Printed → Type 0) → Office → Option (ℕ × Broken) → Printed → Type 0
IsPrintWhereHeld IsPrint o (Some (position, need)) print = print ≡ unheld_print o position need
IsPrintWhereHeld IsPrint o None print = IsPrint o print

-- what is asked of an office, or why there is none
abbrev pub IsPrintIn : (Office → Printed → Type 0) → Opened → Printed → Type 0
IsPrintIn IsPrint (Err fault) print = print ≡ Err (run_fault.BadOffice fault)
IsPrintIn IsPrint (Ok (o, unheld)) print = IsPrintWhereHeld IsPrint o unheld print

-- nothing is to be printed of an office whose broken needs are known
abbrev pub IsNoPrint : Office → Printed → Type 0
IsNoPrint o print = ⊥

-- what is made -------------------------------------------------------------------------------

-- a fault that texts have, by what is to be printed of them, or want of memory
abbrev pub IsTextFault : (Printed → Type 0) → RunFault → Type 0
IsTextFault IsPrint (run_fault.BadOffice e) = IsPrint (Err (run_fault.BadOffice e))
IsTextFault IsPrint (run_fault.BadScript number e) = IsPrint (Err (run_fault.BadScript number e))
IsTextFault IsPrint (run_fault.BadCertificate number e) = IsPrint (Err (run_fault.BadCertificate number e))
IsTextFault IsPrint run_fault.OutOfMemory = Unit {0}
IsTextFault IsPrint run_fault.ReadFailed = ⊥
IsTextFault IsPrint run_fault.WriteFailed = ⊥
IsTextFault IsPrint run_fault.TooLong = ⊥
IsTextFault IsPrint run_fault.NoSeparator = ⊥

-- an output is what is to be printed; or a fault
abbrev pub IsOutput : (Printed → Type 0) → Result Output RunFault → Type 0
IsOutput IsPrint (Ok output) = IsPrint (print_of output.lines.items output.refused output.lost)
IsOutput IsPrint (Err e) = IsTextFault IsPrint e

-- why an office text gives no draft, or want of memory
abbrev pub IsOfficeFault : Result Office TextFault → RunFault → Type 0
IsOfficeFault meant (run_fault.BadOffice e) = meant ≡ Err e
IsOfficeFault meant run_fault.OutOfMemory = Unit {0}
IsOfficeFault meant _ = ⊥
