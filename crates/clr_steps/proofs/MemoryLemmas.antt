-- No command is refused for want of memory: what is answered so is lost.
use Rattle.std.proofs.Common.{◌≡◌, Bool, true, false, not, ◌||◌, cond, List, [], ◌∷◌, Option, Some, None, refl}
use Rattle.std.specs.Option.{option_map, option_map_or}
use Rattle.clr_rows.specs.Contents.{Content}
use Rattle.clr_rows.specs.Names.{is_good_name}
use Rattle.clr_rules.specs.declared.rules.Rule.{Rule}
use Rattle.clr_steps.specs.declared.commands.Command.{Command}
use Rattle.clr_steps.specs.declared.commands.Command.TheVariants as command
use Rattle.clr_steps.specs.declared.commands.Reply.{Reply}
use Rattle.clr_steps.specs.declared.commands.Reply.TheVariants.{LiveIsFixed, NoWorkspace, BadName, NameTaken, TooMany, RuleBroken}
use Rattle.clr_workspaces.specs.Workspaces.{Workspace}
use Rattle.clr_steps.specs.Names.{is_live}
use Rattle.clr_steps.specs.Offices.{Office, workspace, stands}
use Rattle.clr_steps.specs.Effects.{edited_content, effect}
use Rattle.clr_steps.specs.Refusals.{is_full, is_deep, when, first_of, bad_edit, in_conflict, edit_refusal, conflict, first_newly_broken, broken_where, breaks, hold_breaks, refresh_breaks}
use Rattle.clr_steps.specs.Refusals.{name_in, refusals_of, refusal_on, refusal}
use Rattle.clr_steps.specs.Steps.{refused_or_done, step, is_lost}
use Rattle.clr_steps.specs.Laws.{MemoryLaw}

abbrev IsNoLoss : Option Reply → Type 0
IsNoLoss None = Unit {0}
IsNoLoss (Some reply) = is_lost reply ≡ false

abbrev AreNoLoss : List (Option Reply) → Type 0
AreNoLoss [] = Unit {0}
AreNoLoss (r ∷ rs) = IsNoLoss r × AreNoLoss rs

of_when : (test : Bool) (reply : Reply) → is_lost reply ≡ false → IsNoLoss (when test reply)
of_when true reply e = e
of_when false reply e = tt

of_map : {A : Type 0} (f : A → Reply) → ((a : A) → is_lost (f a) ≡ false) → (r : Option A) → IsNoLoss (option_map f r)
of_map f h None = tt
of_map f h (Some a) = h a

of_first : (rs : List (Option Reply)) → AreNoLoss rs → IsNoLoss (first_of rs)
of_first [] h = tt
of_first (None ∷ rs) h = of_first rs h.1
of_first (Some reply ∷ rs) h = h.0

of_broken : (kept : Bool) (book : List Rule) (before content : Content) → IsNoLoss (broken_where kept book before content)
of_broken true book before content = of_map RuleBroken (λ b. refl) (first_newly_broken book before content)
of_broken false book before content = tt

of_breaks : (o : Office) (n : _) (content : Content) → IsNoLoss (breaks o n content)
unfolding breaks
of_breaks o n content = of_broken _ o.book _ content

of_refresh : (o : Office) (w : Workspace) → IsNoLoss (refresh_breaks o w)
unfolding refresh_breaks
of_refresh o w = of_broken _ o.book _ _

of_hold : (o : Office) (w : Workspace) → IsNoLoss (hold_breaks o w)
unfolding hold_breaks
of_hold o w = of_broken _ o.book _ _

of_conflict : (o : Office) (w : Workspace) → IsNoLoss (conflict o w)
unfolding conflict
of_conflict o w = of_map in_conflict (λ c. refl) _

of_edits : (o : Office) (n : _) (edits : _) → IsNoLoss (edit_refusal o n edits)
unfolding edit_refusal
of_edits o n edits = of_map bad_edit (λ e. refl) _

of_workspace : (o : Office) (w : Workspace) (c : Command) → AreNoLoss (refusals_of o w c)
unfolding refusals_of
of_workspace o w (command.Create n p) = tt
of_workspace o w (command.Remove n) = (of_when _ _ refl, tt)
of_workspace o w (command.Apply n edits) = tt
of_workspace o w (command.Mark n s) = (of_when _ _ refl, (of_when _ _ refl, (of_when _ _ refl, tt)))
of_workspace o w (command.Unmark n s) = (of_when _ _ refl, tt)
of_workspace o w (command.RollTo n s) = (of_when _ _ refl, (of_when _ _ refl, (of_breaks o _ _, tt)))
of_workspace o w (command.RollAll n) = (of_when _ _ refl, (of_breaks o _ _, tt))
of_workspace o w (command.Refresh n) = (of_conflict o w, (of_refresh o w, tt))
of_workspace o w (command.Merge n gone) = (of_when _ _ refl, (of_conflict o w, (of_breaks o _ _, tt)))
of_workspace o w (command.Resolve n cell keep) = (of_when _ _ refl, (of_breaks o _ _, tt))
of_workspace o w (command.Hold n) = (of_hold o w, tt)
of_workspace o w (command.Release n) = tt

below_live : (o : Office) (c : Command) → IsNoLoss (refusal_on o c)
below_live o c = by (is_live (name_in c)) (workspace o (name_in c))
  where
    by : (b : Bool) (r : Option Workspace) → IsNoLoss (cond b (Some LiveIsFixed) (option_map_or (λ w. first_of (refusals_of o w c)) r (Some NoWorkspace)))
    by true r = refl
    by false None = refl
    by false (Some w) = of_first (refusals_of o w c) (of_workspace o w c)

of_refusal : (o : Office) (c : Command) → IsNoLoss (refusal o c)
unfolding refusal
of_refusal o (command.Create n p) = of_first (when (not (stands o p)) NoWorkspace ∷ when (not (is_good_name n)) BadName ∷ when (stands o n) NameTaken
    ∷ when (is_full o || is_deep o p) TooMany ∷ []) (of_when _ _ refl, (of_when _ _ refl, (of_when _ _ refl, (of_when _ _ refl, tt))))
of_refusal o (command.Apply n edits) = of_first (when (not (stands o n)) NoWorkspace ∷ edit_refusal o n edits ∷ breaks o n (edited_content o n edits)
    ∷ []) (of_when _ _ refl, (of_edits o n edits, (of_breaks o n _, tt)))
of_refusal o (command.Remove n) = below_live o (command.Remove n)
of_refusal o (command.Mark n s) = below_live o (command.Mark n s)
of_refusal o (command.Unmark n s) = below_live o (command.Unmark n s)
of_refusal o (command.RollTo n s) = below_live o (command.RollTo n s)
of_refusal o (command.RollAll n) = below_live o (command.RollAll n)
of_refusal o (command.Refresh n) = below_live o (command.Refresh n)
of_refusal o (command.Merge n gone) = below_live o (command.Merge n gone)
of_refusal o (command.Resolve n cell keep) = below_live o (command.Resolve n cell keep)
of_refusal o (command.Hold n) = below_live o (command.Hold n)
of_refusal o (command.Release n) = below_live o (command.Release n)

pub memory_law : MemoryLaw
unfolding step
memory_law o c = by (refusal o c) (of_refusal o c)
  where
    by : (r : Option Reply) → IsNoLoss r → is_lost (refused_or_done r o (effect o c)).reply ≡ false
    by None h = refl
    by (Some reply) h = h
