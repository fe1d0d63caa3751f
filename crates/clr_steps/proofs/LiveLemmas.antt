-- No step breaks more needs in LIVE.
use Rattle.std.proofs.Common.{◌≡◌, ◌∙◌, Bool, true, false, not, ◌||◌, cond, List, [], ◌∷◌, refl, sym, ap, subst, Option, Some, None}
use Rattle.std.specs.Option.{option_map, option_map_or}
use Rattle.clr_rows.specs.Contents.{Content, row_at}
use Rattle.clr_rules.specs.declared.needs.Broken.{Broken}
use Rattle.clr_rules.specs.declared.rules.Rule.{Rule}
use Rattle.clr_rules.specs.Needs.{BreaksNoMore}
use Rattle.clr_workspaces.specs.Marks.{Name, find_mark}
use Rattle.clr_workspaces.specs.Workspaces.{Workspace}
use Rattle.clr_workspaces.specs.Operations.{roll_to, with_current}
use Rattle.clr_steps.specs.declared.commands.Command.{Command}
use Rattle.clr_steps.specs.declared.commands.Command.TheVariants as command
use Rattle.clr_steps.specs.declared.commands.Reply.{Reply}
use Rattle.clr_steps.specs.declared.commands.Reply.TheVariants.{NoWorkspace, RuleBroken}
use Rattle.clr_steps.specs.Names.{is_live}
use Rattle.clr_steps.specs.Offices.{Office, content_of, current_of, find_name, is_kept, modify, set_content, stands, workspace}
use Rattle.clr_steps.specs.Effects.{after_apply, after_create, after_mark, after_merge, after_refresh, after_remove, after_resolve, after_roll_all, after_roll_to}
use Rattle.clr_steps.specs.Effects.{after_unmark, edited_content, effect, merged_content, set_kept}
use Rattle.clr_steps.specs.Laws.{LiveLaw}
use Rattle.clr_steps.specs.Refusals.{breaks, broken_where, edit_refusal, first_newly_broken, refusal, refusals_of, when}
use Rattle.clr_steps.specs.Steps.{refused_or_done, step}
use Rattle.clr_steps.proofs.NeedLemmas.{no_more_if_none}
use Rattle.clr_steps.proofs.RuleLemmas.{each_none, unrefused}

-- an office in whose LIVE no more is broken than in that of another
abbrev Q : Office → Office → Type 0
Q o next = BreaksNoMore o.book (row_at o.live) (row_at next.live)

same_live : (o next : Office) → next.live ≡ o.live → Q o next
same_live o next e = subst (λ (m : Content). BreaksNoMore o.book (row_at o.live) (row_at m)) (sym e) (λ ask s t kept. kept)

pub none_there : (book : List Rule) (before content : Content) → broken_where true book before content ≡ None → first_newly_broken book before content ≡ None
none_there book before content = by (first_newly_broken book before content)
  where
    by : (r : Option Broken) → option_map RuleBroken r ≡ None → r ≡ None
    by None e = refl
    by (Some b) e = absurd (cc)

set_no_more : (o : Office) (n : Name) (content : Content) → breaks o n content ≡ None → Q o (set_content o n content)
unfolding set_content breaks is_kept content_of
set_no_more o n content none = by (is_live n) refl
  where
    by : (b : Bool) → is_live n ≡ b → Q o (cond b (record o { live = content }) (record o { workspaces = modify n (with_current content) o.workspaces }))
    by true e =
        let kept : is_kept o n ≡ true = ap (λ b. b || option_map_or (λ (w : Workspace). w.kept) (workspace o n) false) e in
        let own : content_of o n ≡ o.live = ap (λ b. cond b o.live (current_of (find_name n o.workspaces))) e in
        no_more_if_none o.book o.live content (none_there o.book o.live content
        (sym (ap (λ b. broken_where b o.book o.live content) kept) ∙ sym (ap (λ before. broken_where (is_kept o n) o.book before content) own) ∙ none))
    by false e = λ ask s t kept. kept

merge_no_more : (o : Office) (w : Workspace) → breaks o w.parent (merged_content o w) ≡ None → Q o (after_merge o w)
unfolding after_merge
merge_no_more o w none = set_no_more o w.parent (merged_content o w) none

either_no_more : (o : Office) (w : Workspace) (gone : Bool) → breaks o w.parent (merged_content o w) ≡ None
    → Q o (cond gone (after_remove (after_merge o w) w) (after_merge o w))
unfolding after_remove
either_no_more o w true none = merge_no_more o w none
either_no_more o w false none = merge_no_more o w none

-- an effect on a workspace that leaves LIVE
on_one : (o : Office) (n : Name) (f : Workspace → Office) → ((w : Workspace) → (f w).live ≡ o.live) → Q o (option_map_or f (workspace o n) o)
on_one o n f leaves = by (workspace o n)
  where
    by : (r : Option Workspace) → Q o (option_map_or f r o)
    by None = λ ask s t kept. kept
    by (Some w) = same_live o (f w) (leaves w)

rolled_live : (o : Office) (w : Workspace) (s : Name) → (after_roll_to o w s).live ≡ o.live
unfolding after_roll_to
rolled_live o w s = by (find_mark w.marks s)
  where
    by : (r : Option _) → (option_map_or (λ i. let next : Office = record o { workspaces = modify w.name (roll_to i) o.workspaces } in next) r o).live ≡ o.live
    by None = refl
    by (Some i) = refl

effect_no_more : (o : Office) (c : Command) → refusal o c ≡ None → Q o (effect o c)
unfolding effect refusal refusals_of after_create after_remove after_apply after_mark after_unmark after_roll_all after_refresh after_resolve set_kept
effect_no_more o (command.Create n p) none = λ ask s t kept. kept
effect_no_more o (command.Apply n edits) none = set_no_more o n (edited_content o n edits) (each_none (when (not (stands o n)) NoWorkspace
    ∷ edit_refusal o n edits ∷ breaks o n (edited_content o n edits) ∷ []) none).1.1.0
effect_no_more o (command.Remove n) none = on_one o n (after_remove o) (λ w. refl)
effect_no_more o (command.Mark n s) none = on_one o n (λ w. after_mark o w s) (λ w. refl)
effect_no_more o (command.Unmark n s) none = on_one o n (λ w. after_unmark o w s) (λ w. refl)
effect_no_more o (command.RollTo n s) none = on_one o n (λ w. after_roll_to o w s) (λ w. rolled_live o w s)
effect_no_more o (command.RollAll n) none = on_one o n (after_roll_all o) (λ w. refl)
effect_no_more o (command.Refresh n) none = on_one o n (after_refresh o) (λ w. refl)
effect_no_more o (command.Merge n gone) none =
    let c = command.Merge n gone in
    let u = unrefused o c none in
    subst (λ r. Q o (option_map_or (λ w. cond gone (after_remove (after_merge o w) w) (after_merge o w)) r o)) (sym u.is)
    (either_no_more o u.at gone (each_none (refusals_of o u.at c) u.free).1.1.0)
effect_no_more o (command.Resolve n cell keep) none = on_one o n (λ w. after_resolve o w cell keep) (λ w. refl)
effect_no_more o (command.Hold n) none = on_one o n (λ w. set_kept o w true) (λ w. refl)
effect_no_more o (command.Release n) none = on_one o n (λ w. set_kept o w false) (λ w. refl)

pub live_law : LiveLaw
unfolding step
live_law o c = by (refusal o c) refl
  where
    by : (r : Option Reply) → refusal o c ≡ r → BreaksNoMore o.book (row_at o.live) (row_at (refused_or_done r o (effect o c)).office.live)
    by None e = effect_no_more o c e
    by (Some reply) e = λ ask s t kept. kept
