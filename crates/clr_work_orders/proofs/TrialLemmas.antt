-- What trials leave, and what is told of them.
use Rattle.std.proofs.Common.{◌≡◌, ◌∙◌, ◌++◌, ◌∷◌, [], ℕ, Bool, List, Option, None, Some, true, false, ap, append_assoc, append-nil, inl, inr, refl, subst, sym}
use Rattle.std.specs.Prelude.{option_to_list, slice_get}
use Rattle.clr_change.specs.declared.edits.Edit.{Edit}
use Rattle.clr_workspaces.specs.Marks.{Name}
use Rattle.clr_workspaces.specs.Workspaces.{live_workspace}
use Rattle.clr_workspaces.specs.Soundness.{IsSound}
use Rattle.clr_steps.specs.declared.commands.Command.{Command}
use Rattle.clr_steps.specs.declared.commands.Command.TheVariants as command
use Rattle.clr_steps.specs.declared.commands.Reply.{Reply}
use Rattle.clr_steps.specs.declared.commands.Reply.TheVariants.{Done, OutOfMemory}
use Rattle.clr_steps.specs.Offices.{Office}
use Rattle.clr_steps.specs.Quiet.{MergeSet}
use Rattle.clr_steps.specs.Effects.{effect}
use Rattle.clr_steps.specs.Refusals.{refusal}
use Rattle.clr_steps.specs.Steps.{IsAnswer, answer, is_lost, refused_or_done, step, step_or_lost}
use Rattle.clr_merge_clashes.specs.Laws.{merge_set_of_part}
use Rattle.clr_tips.specs.declared.splits.Piece.{Piece}
use Rattle.clr_tips.specs.declared.splits.Split.{Split}
use Rattle.clr_work_orders.specs.declared.actions.Action.{Action}
use Rattle.clr_work_orders.specs.declared.answers.Answer.{Answer}
use Rattle.clr_work_orders.specs.declared.trials.Trial.{Trial}
use Rattle.clr_work_orders.specs.Actions.{action_text}
use Rattle.clr_work_orders.specs.Making.{AddsTrial, IsActionTried, IsBack, IsDone, IsEditJudged, IsEditTried, IsOtherTried, IsSplitJudged, IsSplitTried}
use Rattle.clr_work_orders.specs.declared.actions.Action.TheVariants as action
use Rattle.clr_work_orders.specs.Trials.{AreTrials, IsTried, IsTrialAnswer, saving}
use Rattle.clr_work_orders.proofs.Savepoints.{IsBetween, as_before, edited, same}

-- edits were tried or not, and what was there is there again
between : (o there : Office) (ws : Name) (edits : List Edit) (s : MergeSet) (told : Option Answer) → IsEditJudged o ws edits s told there → IsBetween ws o there
between o there ws edits s None (refused, e) = same e
between o there ws edits s (Some given) (made, judged) = edited edits made

pub back_to : (o saved there left : Office) (ws savepoint : Name) (edits : List Edit) (s : MergeSet) (told : Option Answer)
    → IsSound (live_workspace o.live ∷ o.workspaces) → step o (command.Mark ws savepoint) ≡ answer Done saved
    → IsEditJudged saved ws edits s told there → IsBack there ws savepoint left → left ≡ o
back_to o saved there left ws savepoint edits s told sound mark judged (rolled, roll, unmark) =
    as_before o sound ws savepoint saved there rolled left mark (between saved there ws edits s told judged) roll unmark

pub told_of : (o saved there : Office) (ws : Name) (edits : List Edit) (s : MergeSet) (told : Option Answer)
    → step o (saving ws) ≡ answer Done saved → IsEditJudged saved ws edits s told there → IsEditTried o ws edits s told
told_of o saved there ws edits s None mark (refused, e) = inr (saved, mark, refused)
told_of o saved there ws edits s (Some given) mark (made, judged) = (there, record { saved = saved; mark = mark; apply = made }, judged)

-- what is told of an edit is told of the action that makes it
pub told_as : (o : Office) (s : MergeSet) (order : List ℕ) (at : ℕ) (edit : Edit) (ws : Name) → slice_get s.members at ≡ Some ws → (told : Option Answer)
    → IsEditTried o ws (edit ∷ []) (merge_set_of_part s order) told → IsActionTried o s order (action.Make at edit) told
told_as o s order at edit ws get None cannot = inr (ws, get, cannot)
told_as o s order at edit ws get (Some given) (next, made, judged) = (ws, get, next, made, judged)

-- ---- lines that are split
-- what is told of the edits of another member is told of what it does
pub other_told : (o : Office) (s part : MergeSet) (piece : Piece) (ws : Name) → slice_get s.members piece.member ≡ Some ws → (told : Option Answer)
    → IsEditTried o ws piece.edits part told → IsOtherTried o s part (Some piece) told
other_told o s part piece ws get None cannot = inr (ws, get, cannot)
other_told o s part piece ws get (Some given) (next, made, judged) = (ws, get, next, made, judged)

between_split : (o there : Office) (s part : MergeSet) (ws : Name) (split : Split) (told : Option Answer) → IsSplitJudged o s part ws split told there
    → IsBetween ws o there
between_split o there s part ws split told (inl (refused, e, none)) = same e
between_split o there s part ws split told (inr (made, tried)) = edited split.first.edits made

pub split_back : (o saved there left : Office) (s part : MergeSet) (ws savepoint : Name) (split : Split) (told : Option Answer)
    → IsSound (live_workspace o.live ∷ o.workspaces) → step o (command.Mark ws savepoint) ≡ answer Done saved
    → IsSplitJudged saved s part ws split told there → IsBack there ws savepoint left → left ≡ o
split_back o saved there left s part ws savepoint split told sound mark judged (rolled, roll, unmark) =
    as_before o sound ws savepoint saved there rolled left mark (between_split saved there s part ws split told judged) roll unmark

pub split_told : (o saved there : Office) (s part : MergeSet) (ws : Name) (split : Split) (told : Option Answer)
    → step o (saving ws) ≡ answer Done saved → IsSplitJudged saved s part ws split told there → IsSplitTried o s part ws split told
split_told o saved there s part ws split None mark (inl (refused, e, none)) = inl (inr (saved, mark, refused))
split_told o saved there s part ws split None mark (inr (made, cannot)) = inr (there, record { saved = saved; mark = mark; apply = made }, cannot)
split_told o saved there s part ws split (Some given) mark (inl (refused, e, none)) = absurd cc
split_told o saved there s part ws split (Some given) mark (inr (made, tells)) = (there, record { saved = saved; mark = mark; apply = made }, tells)

-- what is told of lines that are split is told of the action that splits them
pub split_as : (o : Office) (s : MergeSet) (order : List ℕ) (split : Split) (ws : Name) → slice_get s.members split.first.member ≡ Some ws
    → (told : Option Answer) → IsSplitTried o s (merge_set_of_part s order) ws split told → IsActionTried o s order (action.Split split) told
split_as o s order split ws get None cannot = inr (ws, get, cannot)
split_as o s order split ws get (Some given) (mid, made, tells) = (ws, get, mid, made, tells)

-- a command that isn't done, though there was memory, is refused, and leaves the office as it is
pub undone : (o : Office) (c : Command) (reply : Reply) (left : Office) → IsAnswer o c reply left → (reply ≡ Done → ⊥) → (reply ≡ OutOfMemory → ⊥)
    → IsDone o c false left
unfolding step
undone o c reply left is other found = by (is_lost reply) is
  where
    refused : (r : Option Reply) → refusal o c ≡ r → answer reply left ≡ refused_or_done r o (effect o c) → IsDone o c false left
    refused None none e = absurd (other (ap (λ a. a.reply) e))
    refused (Some given) some e = ((given, some), ap (λ a. a.office) e)

    by : (lost : Bool) → answer reply left ≡ step_or_lost lost o c → IsDone o c false left
    by true e = absurd (found (ap (λ a. a.reply) e))
    by false e = refused (refusal o c) refl e

-- one more trial -----------------------------------------------------------------------------------

-- the trial of the last action stands behind the others
pub trials_last : (o : Office) (s : MergeSet) (order : List ℕ) (actions : List Action) (a : Action) (trials : List Trial) (last : Option Trial)
    → AreTrials o s order actions trials → IsTried o s order a last → AreTrials o s order (actions ++ a ∷ []) (trials ++ option_to_list last)
trials_last o s order [] a trials last none is =
    (last, is, [], refl, ap (λ ts. ts ++ option_to_list last) none ∙ sym (append-nil (option_to_list last)))
trials_last o s order (b ∷ actions) a trials last (first, one, rest, others, all) is = (
  first,
  one,
  rest ++ option_to_list last,
  trials_last o s order actions a rest last others is,
  ap (λ ts. ts ++ option_to_list last) all ∙ append_assoc (option_to_list first) rest (option_to_list last),
)

pub more_trials : (o now left : Office) (s : MergeSet) (order : List ℕ) (actions : List Action) (a : Action) (old new : List Trial)
    → AreTrials o s order actions old × (now ≡ o) → AddsTrial now s order a old new → left ≡ now
    → AreTrials o s order (actions ++ a ∷ []) new × (left ≡ o)
more_trials o now left s order actions a old new (all, e) added back = (by (subst (λ (x : Office). AddsTrial x s order a old new) e added), back ∙ e)
  where
    by : AddsTrial o s order a old new → AreTrials o s order (actions ++ a ∷ []) new
    by (trial, is, more) = subst (AreTrials o s order (actions ++ a ∷ [])) (sym more) (trials_last o s order actions a old trial all is)

-- the trial that is made of an answer
pub tried_as : (o : Office) (s : MergeSet) (order : List ℕ) (a : Action) (told : Answer) (trial : Trial) → IsActionTried o s order a (Some told)
    → trial.words ≡ action_text o.schema s.members order a → trial.action ≡ a → trial.answer ≡ told → IsTried o s order a (Some trial)
tried_as o s order a told trial given words is answers = (
  is,
  record {
    words = words ∙ ap (action_text o.schema s.members order) (sym is);
    told = subst (λ (b : Answer). IsTrialAnswer o s order trial.action b) (sym answers)
        (subst (λ (x : Action). IsTrialAnswer o s order x told) (sym is) given);
  },
)
