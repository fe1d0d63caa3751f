-- Steps and runs: what commands are answered, and the office that they leave.
use Rattle.std.specs.Prelude.{◌≡◌, ℕ, ◌+◌, Bool, true, false, List, [], ◌∷◌, Option, Some, None, slice_get}
use Rattle.std.specs.Option.{option_map_or}
use Rattle.clr_steps.specs.declared.commands.Command.{Command}
use Rattle.clr_steps.specs.declared.commands.Command.TheVariants as command
use Rattle.clr_steps.specs.declared.commands.Reply.{Reply}
use Rattle.clr_steps.specs.declared.commands.Reply.TheVariants.{Done, OutOfMemory}
use Rattle.clr_steps.specs.Offices.{Office}
use Rattle.clr_steps.specs.Effects.{effect}
use Rattle.clr_steps.specs.Refusals.{refusal}

pub record Answer : Type 0 where
  pub reply : Reply
  pub office : Office

abbrev pub answer : Reply → Office → Answer
answer reply o = record { reply = reply; office = o }

-- a refusal leaves the office as it is
abbrev pub refused_or_done : Option Reply → Office → Office → Answer
refused_or_done None o next = answer Done next
refused_or_done (Some reply) o next = answer reply o

unfoldable pub step : Office → Command → Answer
step o c = refused_or_done (refusal o c) o (effect o c)

-- want of memory ---------------------------------------------------------------------------------------

-- a command that finds no memory leaves the office as it is
abbrev pub step_or_lost : Bool → Office → Command → Answer
step_or_lost true o c = answer OutOfMemory o
step_or_lost false o c = step o c

abbrev pub is_lost : Reply → Bool
is_lost OutOfMemory = true
is_lost _ = false

-- the reply and the office that is left are those of the step, or of a command that found no memory
abbrev pub IsAnswer : Office → Command → Reply → Office → Type 0
IsAnswer o c reply left = answer reply left ≡ step_or_lost (is_lost reply) o c

-- commands that are never answered OutOfMemory
abbrev pub TakesNoMemory : Command → Type 0
TakesNoMemory (command.Remove ws) = Unit {0}
TakesNoMemory (command.Unmark ws name) = Unit {0}
TakesNoMemory (command.Release ws) = Unit {0}
TakesNoMemory _ = ⊥

-- runs ---------------------------------------------------------------------------------------------------

pub record Run : Type 0 where
  pub replies : List Reply
  pub office : Office

-- commands one after another; one whose position is in `lost` finds no memory
abbrev pub run : Office → List Command → (ℕ → Bool) → Run
run o [] lost = record { replies = []; office = o }
run o (c ∷ cs) lost =
    let a = step_or_lost (lost 0) o c in
    let rest = run a.office cs (λ k. lost (k + 1)) in
    record { replies = a.reply ∷ rest.replies; office = rest.office }

-- the replies to commands one after another, and the office that is left after the last
abbrev pub AreAnswers : Office → List Command → List Reply → Office → Type 0
AreAnswers o [] [] left = left ≡ o
AreAnswers o (c ∷ cs) (reply ∷ replies) left = (next : Office) × IsAnswer o c reply next × AreAnswers next cs replies left
AreAnswers o _ _ left = ⊥

-- the positions of the replies OutOfMemory
abbrev pub lost_in : List Reply → ℕ → Bool
lost_in replies k = option_map_or is_lost (slice_get replies k) false
