-- What each step of a trial leaves.
use Rattle.std.specs.Prelude.{◌≡◌, ◌++◌, ◌⊎◌, ℕ, Bool, true, false, List, Option, Some, None, option_to_list}
use Rattle.clr_change.specs.declared.edits.Edit.{Edit}
use Rattle.clr_workspaces.specs.Marks.{Name}
use Rattle.clr_steps.specs.declared.commands.Command.{Command}
use Rattle.clr_steps.specs.declared.commands.Command.TheVariants as command
use Rattle.clr_steps.specs.declared.commands.Reply.TheVariants.{Done}
use Rattle.clr_steps.specs.Offices.{Office}
use Rattle.clr_steps.specs.Quiet.{MergeSet}
use Rattle.clr_steps.specs.Steps.{answer, step}
use Rattle.clr_tips.specs.declared.splits.Piece.{Piece}
use Rattle.clr_tips.specs.declared.splits.Split.{Split}
use Rattle.clr_work_orders.specs.declared.actions.Action.{Action}
use Rattle.clr_work_orders.specs.declared.answers.Answer.{Answer}
use Rattle.clr_work_orders.specs.declared.trials.Trial.{Trial}
use Rattle.clr_work_orders.specs.Trials.{CannotEdit, CannotOther, CannotSplit, CannotTry, IsEdited, IsRefused, IsTried, IsTrialAnswer, TellsAnswer, TellsOther}

-- a command is done, or it is refused and nothing changes
abbrev pub IsDone : Office → Command → Bool → Office → Type 0
IsDone o c true next = step o c ≡ answer Done next
IsDone o c false next = IsRefused o c × (next ≡ o)

-- a workspace was set back to a savepoint, which then went
abbrev pub IsBack : Office → Name → Name → Office → Type 0
IsBack o ws savepoint next =
    (rolled : Office) × (step o (command.RollTo ws savepoint) ≡ answer Done rolled) × (step rolled (command.Unmark ws savepoint) ≡ answer Done next)

-- edits were made, and this is told of the members then; or they are refused, and nothing changes
abbrev pub IsEditJudged : Office → Name → List Edit → MergeSet → Option Answer → Office → Type 0
IsEditJudged o ws edits s (Some told) next = (step o (command.Apply ws edits) ≡ answer Done next) × TellsAnswer next s told
IsEditJudged o ws edits s None next = IsRefused o (command.Apply ws edits) × (next ≡ o)

-- edits were tried behind the savepoint, and this is told of the members then; or they can't be tried
abbrev pub IsEditTried : Office → Name → List Edit → MergeSet → Option Answer → Type 0
IsEditTried o ws edits s (Some told) = (next : Office) × IsEdited o ws edits next × TellsAnswer next s told
IsEditTried o ws edits s None = CannotEdit o ws edits

-- another member split a line, if there is another, and this is told then; or it can't be tried
abbrev pub IsOtherTried : Office → MergeSet → MergeSet → Option Piece → Option Answer → Type 0
IsOtherTried o s part other (Some told) = TellsOther o s part other told
IsOtherTried o s part other None = CannotOther o s other

-- lines were split in a workspace, and the other member was tried; or the edits are refused, nothing changes, and nothing is told
abbrev pub IsSplitJudged : Office → MergeSet → MergeSet → Name → Split → Option Answer → Office → Type 0
IsSplitJudged o s part ws split told next =
    (IsRefused o (command.Apply ws split.first.edits) × (next ≡ o) × (told ≡ None))
    ⊎ ((step o (command.Apply ws split.first.edits) ≡ answer Done next) × IsOtherTried next s part split.other told)

-- lines were split behind the savepoint of a workspace, and this is told of the members then; or it can't be tried
abbrev pub IsSplitTried : Office → MergeSet → MergeSet → Name → Split → Option Answer → Type 0
IsSplitTried o s part ws split (Some told) = (mid : Office) × IsEdited o ws split.first.edits mid × TellsOther mid s part split.other told
IsSplitTried o s part ws split None = CannotSplit o s ws split

-- an action was tried among the members of an order, and this is told of it; or it can't be tried
abbrev pub IsActionTried : Office → MergeSet → List ℕ → Action → Option Answer → Type 0
IsActionTried o s order action (Some told) = IsTrialAnswer o s order action told
IsActionTried o s order action None = CannotTry o s action

-- the trial of an action stands behind the others, if it can be tried
abbrev pub AddsTrial : Office → MergeSet → List ℕ → Action → List Trial → List Trial → Type 0
AddsTrial o s order action old new = (trial : Option Trial) × IsTried o s order action trial × (new ≡ old ++ option_to_list trial)
