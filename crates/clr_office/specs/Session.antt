-- What a run prints for an input, and what it leaves of its reader and writer.
use Rattle.std.specs.Prelude.{◌≡◌, ℕ, List, Bool, true, false, Option, Some, None, Result, Ok, Err}
use Rattle.std.specs.Io.KnownBytes.{Appends}
use Rattle.clr_command_line.specs.declared.asks.Ask.TheVariants as ask
use Rattle.clr_office.specs.Answers.{IsAnswerWithin}
use Rattle.clr_process_io.specs.Input.{GivesInput, GivesTooMuch}
use Rattle.clr_office_reports.specs.Printing.{Printed}
use Rattle.clr_streams.specs.Separator.{around_separator}
use Rattle.clr_process_io.specs.declared.faults.RunFault.{RunFault}
use Rattle.clr_process_io.specs.declared.faults.RunFault.TheVariants as run_fault

-- what is to be printed for the office text and the script that stand on both sides of the separator
abbrev pub IsSessionOf : Option (List ℕ × List ℕ) → Printed → Type 0
IsSessionOf None print = print ≡ Err run_fault.NoSeparator
IsSessionOf (Some parts) print = IsAnswerWithin ask.Run parts.0 parts.1 print

-- what is to be printed for an input
abbrev pub IsSession : List ℕ → Printed → Type 0
IsSession input print = IsSessionOf (around_separator input) print

-- a run as its devices show it: what the reader had to give and what is left of it, what the
-- writer held and what it holds, each where it is told, and whether they failed
pub record ProgramRun : Type 0 where
  pub input : Option (List ℕ)
  pub left : Option (List ℕ)
  pub read_failed : Bool
  pub held : Option (List ℕ)
  pub holds : Option (List ℕ)
  pub write_failed : Bool

-- the whole input was read
abbrev pub Reads : ProgramRun → List ℕ → Type 0
Reads run input = GivesInput run.input run.left input × (run.read_failed ≡ false)

-- the whole input was read, and its lines went out
abbrev pub Prints : ProgramRun → ℕ → Type 0
Prints run status = (input : List ℕ) × Reads run input × (run.write_failed ≡ false)
    × ((lines : List ℕ) × IsSession input (Ok (lines, status)) × Appends run.held run.holds lines)

-- the whole input was read, and it has this fault
abbrev pub Refuses : ProgramRun → RunFault → Type 0
Refuses run e = (input : List ℕ) × Reads run input × IsSession input (Err e)

-- why a run has no exit status
abbrev pub IsRunFault : ProgramRun → RunFault → Type 0
IsRunFault run run_fault.ReadFailed = run.read_failed ≡ true
IsRunFault run run_fault.WriteFailed = (run.write_failed ≡ true) × ((input : List ℕ) × Reads run input)
IsRunFault run run_fault.TooLong = GivesTooMuch run.input run.left × (run.read_failed ≡ false)
IsRunFault run run_fault.NoSeparator = Refuses run run_fault.NoSeparator
IsRunFault run (run_fault.BadOffice e) = Refuses run (run_fault.BadOffice e)
IsRunFault run (run_fault.BadScript number e) = Refuses run (run_fault.BadScript number e)
IsRunFault run (run_fault.BadCertificate number e) = Refuses run (run_fault.BadCertificate number e)
IsRunFault run run_fault.OutOfMemory = run.read_failed ≡ false

-- what a run answered, with what it left of its reader and writer
abbrev pub AnswersRun : ProgramRun → Result ℕ RunFault → Type 0
AnswersRun run (Ok status) = Prints run status
AnswersRun run (Err e) = IsRunFault run e
