-- No command changes the schema or the rules.
use Rattle.std.proofs.Common.{◌≡◌, Bool, true, false, cond, List, refl, Option, Some, None}
use Rattle.std.specs.Option.{option_map_or}
use Rattle.clr_rows.specs.Contents.{Content}
use Rattle.clr_steps.specs.declared.commands.Command.{Command}
use Rattle.clr_steps.specs.declared.commands.Command.TheVariants as command
use Rattle.clr_steps.specs.declared.commands.Reply.{Reply}
use Rattle.clr_workspaces.specs.Marks.{Name, find_mark}
use Rattle.clr_workspaces.specs.Workspaces.{Workspace}
use Rattle.clr_workspaces.specs.Operations.{with_current, roll_to}
use Rattle.clr_steps.specs.Names.{is_live}
use Rattle.clr_steps.specs.Offices.{Office, workspace, set_content, modify}
use Rattle.clr_steps.specs.Effects.{edited_content, merged_content, after_create, after_remove, after_apply, after_mark, after_unmark, after_roll_to}
use Rattle.clr_steps.specs.Effects.{after_roll_all, after_refresh, after_merge, after_resolve, set_kept, effect}
use Rattle.clr_steps.specs.Refusals.{refusal}
use Rattle.clr_steps.specs.Steps.{refused_or_done, step}
use Rattle.clr_steps.specs.Laws.{SchemaLaw}

record Same (o p : Office) : Type 0 where
  schema : p.schema ≡ o.schema
  book : p.book ≡ o.book

same_itself : (o : Office) → Same o o
same_itself o = record { schema = refl; book = refl }

same_workspaces : (o : Office) (ws : List Workspace) → Same o (record o { workspaces = ws })
same_workspaces o ws = record { schema = refl; book = refl }

same_content : (o : Office) (n : Name) (content : Content) → Same o (set_content o n content)
unfolding set_content
same_content o n content = by (is_live n)
  where
    by : (b : Bool) → Same o (cond b (record o { live = content }) (record o { workspaces = modify n (with_current content) o.workspaces }))
    by true = record { schema = refl; book = refl }
    by false = record { schema = refl; book = refl }

same_on : (o : Office) (n : Name) (f : Workspace → Office) → ((w : Workspace) → Same o (f w)) → Same o (option_map_or f (workspace o n) o)
same_on o n f h = by (workspace o n)
  where
    by : (r : Option Workspace) → Same o (option_map_or f r o)
    by None = same_itself o
    by (Some w) = h w

same_roll_to : (o : Office) (w : Workspace) (s : Name) → Same o (after_roll_to o w s)
unfolding after_roll_to
same_roll_to o w s = by (find_mark w.marks s)
  where
    by : (r : Option _) → Same o (option_map_or (λ i. let next : Office = record o { workspaces = modify w.name (roll_to i) o.workspaces } in next) r o)
    by None = same_itself o
    by (Some i) = same_workspaces o _

same_merge : (o : Office) (w : Workspace) (gone : Bool) → Same o (cond gone (after_remove (after_merge o w) w) (after_merge o w))
unfolding after_remove after_merge
same_merge o w gone = by gone (same_content o w.parent (merged_content o w))
  where
    by : (gone : Bool) → Same o (set_content o w.parent (merged_content o w)) → Same o (cond gone (after_remove (after_merge o w) w) (after_merge o w))
    by true h = record { schema = h.schema; book = h.book }
    by false h = record { schema = h.schema; book = h.book }

same_effect : (o : Office) (c : Command) → Same o (effect o c)
unfolding effect after_create after_remove after_apply after_mark after_unmark after_roll_all after_refresh after_resolve set_kept
same_effect o (command.Create n p) = same_workspaces o _
same_effect o (command.Remove n) = same_on o n _ (λ w. same_workspaces o _)
same_effect o (command.Apply n edits) = same_content o n (edited_content o n edits)
same_effect o (command.Mark n s) = same_on o n _ (λ w. same_workspaces o _)
same_effect o (command.Unmark n s) = same_on o n _ (λ w. same_workspaces o _)
same_effect o (command.RollTo n s) = same_on o n _ (λ w. same_roll_to o w s)
same_effect o (command.RollAll n) = same_on o n _ (λ w. same_workspaces o _)
same_effect o (command.Refresh n) = same_on o n _ (λ w. same_workspaces o _)
same_effect o (command.Merge n gone) = same_on o n _ (λ w. same_merge o w gone)
same_effect o (command.Resolve n cell keep) = same_on o n _ (λ w. same_workspaces o _)
same_effect o (command.Hold n) = same_on o n _ (λ w. same_workspaces o _)
same_effect o (command.Release n) = same_on o n _ (λ w. same_workspaces o _)

pub schema_law : SchemaLaw
unfolding step
schema_law o c = by (refusal o c)
  where
    by : (r : Option Reply) → ((refused_or_done r o (effect o c)).office.schema ≡ o.schema) × ((refused_or_done r o (effect o c)).office.book ≡ o.book)
    by None = let h = same_effect o c in (h.schema, h.book)
    by (Some reply) = (refl, refl)
