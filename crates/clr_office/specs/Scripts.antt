-- What is printed of a script over an office.
use Rattle.std.specs.Prelude.{◌≡◌, ℕ, List, Result, Ok, Err}
use Rattle.clr_steps.specs.Offices.{Office}
use Rattle.clr_scripts.specs.declared.faults.RecordFault.{RecordFault}
use Rattle.clr_scripts.specs.declared.steps.Step.{Step}
use Rattle.clr_scripts.specs.Scripts.{script_in_text}
use Rattle.clr_office.specs.Outcomes.{IsScriptOutcome}
use Rattle.clr_office_reports.specs.Printing.{IsPrintOf, Printed}
use Rattle.clr_process_io.specs.declared.faults.RunFault.{RunFault}
use Rattle.clr_process_io.specs.declared.faults.RunFault.TheVariants as run_fault

-- the script of a text, performed, or why it can't be read
abbrev pub ArePrinted : Office → Result (List Step) (ℕ × RecordFault) → Printed → Type 0
ArePrinted o (Err (number, fault)) print = print ≡ Err (run_fault.BadScript number fault)
ArePrinted o (Ok steps) print = IsPrintOf (IsScriptOutcome o steps) print

abbrev pub IsScriptPrint : List ℕ → Office → Printed → Type 0
IsScriptPrint script o print = ArePrinted o (script_in_text o.schema script) print

-- why a script isn't read, or want of memory
abbrev pub IsScriptFault : Result (List Step) (ℕ × RecordFault) → RunFault → Type 0
IsScriptFault meant (run_fault.BadScript number e) = meant ≡ Err (number, e)
IsScriptFault meant run_fault.OutOfMemory = Unit {0}
IsScriptFault meant _ = ⊥
