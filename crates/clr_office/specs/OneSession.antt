-- What is asked of two texts is answered in one way alone, and no input has two sessions, memory aside. Where members are planned in the order in which they
-- are named, there may be several certificates.
use Rattle.std.specs.Prelude.{◌≡◌, ◌≢◌, ℕ, Bool, true, false, List, Option, Some, None, Result, Ok, Err}
use Rattle.std.specs.List.{list_any}
use Rattle.clr_streams.specs.Separator.{around_separator}
use Rattle.clr_scripts.specs.declared.faults.RecordFault.{RecordFault}
use Rattle.clr_scripts.specs.declared.steps.Step.{Step}
use Rattle.clr_scripts.specs.declared.steps.Step.TheVariants.{Act, Report}
use Rattle.clr_scripts.specs.declared.steps.Word.{Word}
use Rattle.clr_scripts.specs.declared.steps.Word.TheVariants as word
use Rattle.clr_scripts.specs.Scripts.{script_in_text}
use Rattle.clr_office_texts.specs.Drafts.{Opened, opened_in}
use Rattle.clr_command_line.specs.declared.asks.Ask.{Ask}
use Rattle.clr_command_line.specs.declared.asks.Ask.TheVariants as ask
use Rattle.clr_command_line.specs.declared.asks.Orders.{Orders}
use Rattle.clr_command_line.specs.declared.asks.Orders.TheVariants.{Every, AsNamed}
use Rattle.clr_process_io.specs.declared.faults.RunFault.{RunFault}
use Rattle.clr_office.specs.Answers.{IsAnswerTo}
use Rattle.clr_office_reports.specs.Printing.{Printed}
use Rattle.clr_office.specs.Session.{IsSession}

-- no command, plan or verdict found no memory: the status isn't the one that says so
abbrev pub FoundMemory : Printed → Type 0
FoundMemory (Ok printed) = printed.1 ≢ 3
FoundMemory (Err e) = Unit {0}

-- plans in the order of the names ------------------------------------------------------------

abbrev pub is_order_of_names : Orders → Bool
is_order_of_names AsNamed = true
is_order_of_names Every = false

abbrev pub is_planned_as_named : Word → Bool
is_planned_as_named word.PlanInOrder = true
is_planned_as_named word.PlanInOrderUnder = true
is_planned_as_named _ = false

-- the step plans members in the order in which they are named
abbrev pub plans_as_named : Step → Bool
plans_as_named (Act command) = false
plans_as_named (Report word names) = is_planned_as_named word

-- some step of a script that can be read does
abbrev pub some_plan_as_named : Result (List Step) (ℕ × RecordFault) → Bool
some_plan_as_named (Err e) = false
some_plan_as_named (Ok steps) = list_any plans_as_named steps

abbrev pub script_plans_as_named : List ℕ → Opened → Bool
script_plans_as_named script (Err e) = false
script_plans_as_named script (Ok (o, unheld)) = some_plan_as_named (script_in_text o.schema script)

-- what is asked of two texts plans members in the order in which they are named
abbrev pub asks_as_named : Ask → List ℕ → List ℕ → Bool
asks_as_named ask.Audit office second = false
asks_as_named ask.Run office script = script_plans_as_named script (opened_in office)
asks_as_named (ask.Plan orders names) office second = is_order_of_names orders
asks_as_named (ask.PlanUnder orders root names) office second = is_order_of_names orders
asks_as_named ask.Check office certificate = false
asks_as_named (ask.Merge names) office certificate = false

abbrev pub session_plans_as_named : Option (List ℕ × List ℕ) → Bool
session_plans_as_named None = false
session_plans_as_named (Some parts) = asks_as_named ask.Run parts.0 parts.1

-- laws ---------------------------------------------------------------------------------------

-- the status that is printed, or the fault
abbrev pub status_in : Printed → Result ℕ RunFault
status_in (Ok printed) = Ok printed.1
status_in (Err e) = Err e

-- one status or one fault; and, unless members are planned in the order in which they are named, one list of lines
abbrev pub AreAlike : Bool → Printed → Printed → Type 0
AreAlike as_named print other = (status_in print ≡ status_in other) × (as_named ≡ false → print ≡ other)

-- two such prints of what is asked of the same texts are alike
abbrev pub OneAnswerLaw : Type 0
OneAnswerLaw = (asked : Ask) (office second : List ℕ) (print other : Printed)
    → IsAnswerTo asked office second print
    → IsAnswerTo asked office second other
    → FoundMemory print
    → FoundMemory other
    → AreAlike (asks_as_named asked office second) print other

-- two such sessions of one input are alike
abbrev pub OneSessionLaw : Type 0
OneSessionLaw = (input : List ℕ) (print other : Printed)
    → IsSession input print
    → IsSession input other
    → FoundMemory print
    → FoundMemory other
    → AreAlike (session_plans_as_named (around_separator input)) print other
