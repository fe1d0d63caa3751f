-- What is tried of members that can't be merged in every order, and what the planner says of it.
use Rattle.std.specs.Prelude.{◌≡◌, ◌++◌, ◌⊎◌, ℕ, false, List, [], ◌∷◌, Option, Some, None, codes, option_to_list, slice_get}
use Rattle.clr_change.specs.declared.edits.Edit.{Edit}
use Rattle.clr_workspaces.specs.Marks.{Name}
use Rattle.clr_steps.specs.declared.commands.Command.{Command}
use Rattle.clr_steps.specs.declared.commands.Command.TheVariants as command
use Rattle.clr_steps.specs.declared.commands.Reply.{Reply}
use Rattle.clr_steps.specs.declared.commands.Reply.TheVariants.{Done}
use Rattle.clr_steps.specs.Offices.{Office}
use Rattle.clr_steps.specs.Quiet.{MergeSet}
use Rattle.clr_steps.specs.Refusals.{refusal}
use Rattle.clr_steps.specs.Steps.{answer, step}
use Rattle.clr_merge_sets.specs.declared.plans.Plan.{Plan}
use Rattle.clr_merge_clashes.specs.Laws.{merge_set_of_part}
use Rattle.clr_plan.specs.OnePlan.{AreAlike}
use Rattle.clr_plan.specs.OrderedPlans.{IsExactInOrder, IsPlanInOrder, PromisesInOrder}
use Rattle.clr_plan.specs.Plans.{IsPlan}
use Rattle.clr_merge_sets.specs.Plans.{is_cleared, is_out_of_memory}
use Rattle.clr_plan.specs.Promises.{IsExact, Promises}
use Rattle.clr_tips.specs.declared.splits.Piece.{Piece}
use Rattle.clr_tips.specs.declared.splits.Split.{Split}
use Rattle.clr_work_orders.specs.declared.actions.Action.{Action}
use Rattle.clr_work_orders.specs.declared.actions.Action.TheVariants as action
use Rattle.clr_work_orders.specs.declared.answers.Answer.{Answer}
use Rattle.clr_work_orders.specs.declared.trials.Trial.{Trial}
use Rattle.clr_work_orders.specs.Actions.{action_text}
use Rattle.clr_work_orders.specs.Among.{blocked_order, positions_without}
use Rattle.clr_work_orders.specs.Answers.{why_not}
use Rattle.clr_work_orders.specs.Remedies.{AreRemedies}

-- what the planner answers of a merge set, with what it promises
pub record IsAnswered (o : Office) (s : MergeSet) (p : Plan) : Type 0 where
  pub plan : IsPlan o s p
  pub promises : Promises o s p
  pub exact : IsExact o s p

-- what it answers of members that are merged in the order of their names, with what it promises
pub record IsAnsweredInOrder (o : Office) (s : MergeSet) (p : Plan) : Type 0 where
  pub plan : IsPlanInOrder o s p
  pub promises : PromisesInOrder o s p
  pub exact : IsExactInOrder o s p

-- a plan for which memory was found, in short: whether it is cleared, and if not why
pub record IsInShort (o : Office) (s : MergeSet) (p : Plan) (told : Answer) : Type 0 where
  pub found : is_out_of_memory p ≡ false
  pub cleared : told.is_cleared ≡ is_cleared p
  pub why : told.why ≡ why_not o s p

-- what is told of the plans of a merge set: one for which memory was found, in short; each other such plan says the same
pub record TellsAnswer (o : Office) (s : MergeSet) (told : Answer) : Type 0 where
  pub made : Plan
  pub answered : IsAnswered o s made
  pub alike : (p : Plan) → IsPlan o s p → is_out_of_memory p ≡ false → AreAlike made p
  pub short : IsInShort o s made told

-- what is told of the plan of members that are merged in the order of their names
pub record TellsAnswerInOrder (o : Office) (s : MergeSet) (told : Answer) : Type 0 where
  pub made : Plan
  pub answered : IsAnsweredInOrder o s made
  pub short : IsInShort o s made told

-- the savepoint to which a trial goes back
abbrev pub saving : Name → Command
saving ws = command.Mark ws (codes "before_trial")

-- a savepoint was set in a workspace, and then edits were made there; neither was refused
pub record IsEdited (o : Office) (ws : Name) (edits : List Edit) (next : Office) : Type 0 where
  pub saved : Office
  pub mark : step o (saving ws) ≡ answer Done saved
  pub apply : step saved (command.Apply ws edits) ≡ answer Done next

-- a command is refused
abbrev pub IsRefused : Office → Command → Type 0
IsRefused o c = (reply : Reply) × (refusal o c ≡ Some reply)

-- no savepoint can be set in a workspace, or the edits can't be made behind it
abbrev pub CannotEdit : Office → Name → List Edit → Type 0
CannotEdit o ws edits =
    IsRefused o (saving ws) ⊎ ((saved : Office) × (step o (saving ws) ≡ answer Done saved) × IsRefused saved (command.Apply ws edits))

-- what is told of some members, where another one splits a line too, if there is another
abbrev pub TellsOther : Office → MergeSet → MergeSet → Option Piece → Answer → Type 0
TellsOther o s part None told = TellsAnswer o part told
TellsOther o s part (Some piece) told =
    (ws : Name) × (slice_get s.members piece.member ≡ Some ws) × (next : Office) × IsEdited o ws piece.edits next × TellsAnswer next part told

-- the other member can't split its line
abbrev pub CannotOther : Office → MergeSet → Option Piece → Type 0
CannotOther o s None = ⊥
CannotOther o s (Some piece) =
    (slice_get s.members piece.member ≡ None) ⊎ ((ws : Name) × (slice_get s.members piece.member ≡ Some ws) × CannotEdit o ws piece.edits)

-- lines can't be split in a workspace, or then not by the other member
abbrev pub CannotSplit : Office → MergeSet → Name → Split → Type 0
CannotSplit o s ws split =
    CannotEdit o ws split.first.edits ⊎ ((mid : Office) × IsEdited o ws split.first.edits mid × CannotOther mid s split.other)

-- what is told of an action: the plan of the member that goes first and then those of an order, merged in this order; that of the members of the order but the
-- one that is left out; or that of the order in the office in which one made an edit, or in which one or two split lines
abbrev pub IsTrialAnswer : Office → MergeSet → List ℕ → Action → Answer → Type 0
IsTrialAnswer o s order (action.GoFirst at) told = TellsAnswerInOrder o (merge_set_of_part s (at ∷ order)) told
IsTrialAnswer o s order (action.LeaveOut at) told = TellsAnswer o (merge_set_of_part s (positions_without order at)) told
IsTrialAnswer o s order (action.Make at edit) told =
    (ws : Name) × (slice_get s.members at ≡ Some ws) × (next : Office) × IsEdited o ws (edit ∷ []) next × TellsAnswer next (merge_set_of_part s order) told
IsTrialAnswer o s order (action.Split split) told =
    (ws : Name) × (slice_get s.members split.first.member ≡ Some ws) × (mid : Office) × IsEdited o ws split.first.edits mid
    × TellsOther mid s (merge_set_of_part s order) split.other told

-- an action can't be tried: it is on no member, or the edits can't be made
abbrev pub CannotTry : Office → MergeSet → Action → Type 0
CannotTry o s (action.GoFirst at) = ⊥
CannotTry o s (action.LeaveOut at) = ⊥
CannotTry o s (action.Make at edit) = (slice_get s.members at ≡ None) ⊎ ((ws : Name) × (slice_get s.members at ≡ Some ws) × CannotEdit o ws (edit ∷ []))
CannotTry o s (action.Split split) =
    (slice_get s.members split.first.member ≡ None) ⊎ ((ws : Name) × (slice_get s.members split.first.member ≡ Some ws) × CannotSplit o s ws split)

-- a trial of an action: its words are those of the action, and what is told is what the planner answers of it among the members of an order
pub record IsTrial (o : Office) (s : MergeSet) (order : List ℕ) (trial : Trial) : Type 0 where
  pub words : trial.words ≡ action_text o.schema s.members order trial.action
  pub told : IsTrialAnswer o s order trial.action trial.answer

-- what becomes of an action: it is tried, if it can be
abbrev pub IsTried : Office → MergeSet → List ℕ → Action → Option Trial → Type 0
IsTried o s order action None = CannotTry o s action
IsTried o s order action (Some trial) = (trial.action ≡ action) × IsTrial o s order trial

-- one trial of each action that can be tried, in the order of the actions, and no other
abbrev pub AreTrials : Office → MergeSet → List ℕ → List Action → List Trial → Type 0
AreTrials o s order [] trials = trials ≡ []
AreTrials o s order (action ∷ actions) trials =
    (first : Option Trial) × IsTried o s order action first × (rest : List Trial) × AreTrials o s order actions rest
    × (trials ≡ option_to_list first ++ rest)

-- the trials of the remedies of a plan, among the designs of its cause
abbrev pub AreTrialsOf : Office → MergeSet → Plan → List Trial → Type 0
AreTrialsOf o s p trials = (actions : List Action) × AreRemedies o s p actions × AreTrials o s (blocked_order p) actions trials
