-- The office that each command leaves where nothing refuses it.
use Rattle.std.specs.Prelude.{Bool, true, false, not, List, [], ◌∷◌, ◌++◌, if◌then◌else◌, filter}
use Rattle.std.specs.Option.{option_map_or}
use Rattle.clr_rows.specs.declared.cells.CellId.{CellId}
use Rattle.clr_rows.specs.Contents.{Content, taken_over}
use Rattle.clr_change.specs.declared.edits.Edit.{Edit}
use Rattle.clr_change.specs.Edits.{after_edits}
use Rattle.clr_workspaces.specs.Marks.{saved_content, mark_at, find_mark, is_saved_as, without_mark_of, mark_last, Name}
use Rattle.clr_workspaces.specs.Workspaces.{Workspace}
use Rattle.clr_workspaces.specs.Operations.{with_mark_of, new_leaf, with_kept, save, roll_to, roll_all, own_changes, refresh, with_base_merged, keep_row}
use Rattle.clr_steps.specs.declared.commands.Command.{Command}
use Rattle.clr_steps.specs.declared.commands.Command.TheVariants as command
use Rattle.clr_workspaces.specs.declared.rebases.Keep.{Keep}
use Rattle.clr_steps.specs.Offices.{Office, workspace, content_of, set_content, with_workspaces, modify, modify_marks, without}

-- contents that would stand ------------------------------------------------------------------------

-- a content after edits, made one after another
unfoldable pub edited_content : Office → Name → List Edit → Content
edited_content o ws edits = after_edits (content_of o ws) edits

-- a content after a savepoint was rolled back to, where the workspace has one of that name
unfoldable pub rolled_content : Workspace → Name → Content
rolled_content w savepoint = option_map_or (λ i. saved_content (mark_at w.marks i)) (find_mark w.marks savepoint) w.current

-- the parent's content taken over by the workspace's changes: what the workspace has after a refresh, and its parent after a merge
unfoldable pub merged_content : Office → Workspace → Content
merged_content o w = taken_over (content_of o w.parent) (own_changes w)

-- a workspace's content after one cell in conflict was resolved
unfoldable pub resolved_content : Office → Workspace → CellId → Keep → Content
resolved_content o w cell keep = (keep_row cell keep (content_of o w.parent) w).current

-- effects --------------------------------------------------------------------------------------------

-- a leaf at the end, which sees what its parent sees; its mark ends its parent's marks
unfoldable pub after_create : Office → Name → Name → Office
after_create o name parent = with_workspaces o (modify_marks parent (with_mark_of name) o.workspaces ++ new_leaf name parent (content_of o parent) ∷ [])

-- the workspace goes, and its mark
unfoldable pub after_remove : Office → Workspace → Office
after_remove o w = with_workspaces o (modify_marks w.parent (without_mark_of w.name) (without w.name o.workspaces))

unfoldable pub after_apply : Office → Name → List Edit → Office
after_apply o ws edits = set_content o ws (edited_content o ws edits)

-- a savepoint with the current content at the end of the marks
unfoldable pub after_mark : Office → Workspace → Name → Office
after_mark o w savepoint = with_workspaces o (modify w.name (save savepoint) o.workspaces)

-- the savepoint of that name goes
unfoldable pub after_unmark : Office → Workspace → Name → Office
after_unmark o w savepoint = with_workspaces o (modify_marks w.name (filter (λ m. not (is_saved_as savepoint m))) o.workspaces)

-- the current content is the savepoint's; later savepoints go
unfoldable pub after_roll_to : Office → Workspace → Name → Office
after_roll_to o w savepoint = option_map_or (λ i. with_workspaces o (modify w.name (roll_to i) o.workspaces)) (find_mark w.marks savepoint) o

-- the current content is the base; all savepoints go
unfoldable pub after_roll_all : Office → Workspace → Office
after_roll_all o w = with_workspaces o (modify w.name roll_all o.workspaces)

-- the base is the parent's content, and the current one that with the changes over it; all savepoints go, and the mark ends the parent's marks
unfoldable pub after_refresh : Office → Workspace → Office
after_refresh o w = with_workspaces o (modify_marks w.parent (mark_last w.name) (modify w.name (refresh (content_of o w.parent)) o.workspaces))

-- the parent and the base take the changes over; all savepoints go
unfoldable pub after_merge : Office → Workspace → Office
after_merge o w =
    let above = set_content o w.parent (merged_content o w) in
    with_workspaces above (modify w.name with_base_merged above.workspaces)

-- the base has the parent's row at the cell, and the current content the row that is kept
unfoldable pub after_resolve : Office → Workspace → CellId → Keep → Office
after_resolve o w cell keep = with_workspaces o (modify w.name (keep_row cell keep (content_of o w.parent)) o.workspaces)

-- every rule is to hold in the workspace from now on, or no longer
unfoldable pub set_kept : Office → Workspace → Bool → Office
set_kept o w kept = with_workspaces o (modify w.name (with_kept kept) o.workspaces)

-- an effect on the workspace of a name, if there is one
abbrev pub at_workspace : Office → Name → (Workspace → Office) → Office
at_workspace o ws f = option_map_or f (workspace o ws) o

unfoldable pub effect : Office → Command → Office
effect o (command.Create name parent) = after_create o name parent
effect o (command.Remove ws) = at_workspace o ws (after_remove o)
effect o (command.Apply ws edits) = after_apply o ws edits
effect o (command.Mark ws name) = at_workspace o ws (λ w. after_mark o w name)
effect o (command.Unmark ws name) = at_workspace o ws (λ w. after_unmark o w name)
effect o (command.RollTo ws name) = at_workspace o ws (λ w. after_roll_to o w name)
effect o (command.RollAll ws) = at_workspace o ws (after_roll_all o)
effect o (command.Refresh ws) = at_workspace o ws (after_refresh o)
effect o (command.Merge ws remove) = at_workspace o ws (λ w. if remove then after_remove (after_merge o w) w else after_merge o w)
effect o (command.Resolve ws cell keep) = at_workspace o ws (λ w. after_resolve o w cell keep)
effect o (command.Hold ws) = at_workspace o ws (λ w. set_kept o w true)
effect o (command.Release ws) = at_workspace o ws (λ w. set_kept o w false)
