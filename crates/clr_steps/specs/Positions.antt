-- What each command is refused for and leaves, told by positions in a tree's list of workspaces, where LIVE is the first.
use Rattle.std.specs.Prelude.{ℕ, zero, suc, Bool, true, false, not, ◌||◌, ◌&&◌, List}
use Rattle.std.specs.Prelude.{[], ◌∷◌, Option, Some, None, if◌then◌else◌, length, is_none, is_some, nat_le, nat_lt}
use Rattle.std.specs.Option.{option_map, option_map_or}
use Rattle.clr_rows.specs.declared.tables.TableDef.{TableDef}
use Rattle.clr_rows.specs.Contents.{Content, no_rows, changes, taken_over}
use Rattle.clr_rows.specs.Names.{is_good_name}
use Rattle.clr_change.specs.declared.edits.Edit.{Edit}
use Rattle.clr_change.specs.Edits.{after_edits, first_bad_edit}
use Rattle.clr_rules.specs.declared.rules.Rule.{Rule}
use Rattle.clr_workspaces.specs.Operations as tree
use Rattle.clr_workspaces.specs.Marks.{Name, find_mark, saved_count, is_held}
use Rattle.clr_workspaces.specs.Workspaces.{Workspace, workspace_at, find, parent_of, children_of, depth_of}
use Rattle.clr_workspaces.specs.Operations.{own_changes, keep_row, at_position}
use Rattle.clr_workspaces.specs.declared.rebases.Rebase.TheVariants as rebase
use Rattle.clr_workspaces.specs.declared.limits.TheConstants.{MOST_WORKSPACES, MOST_LEVELS, MOST_SAVEPOINTS}
use Rattle.clr_steps.specs.declared.commands.Command.{Command}
use Rattle.clr_steps.specs.declared.commands.Command.TheVariants as command
use Rattle.clr_steps.specs.declared.commands.Reply.{Reply}
use Rattle.clr_steps.specs.declared.commands.Reply.TheVariants.{NoWorkspace, NameTaken, BadName, LiveIsFixed}
use Rattle.clr_steps.specs.declared.commands.Reply.TheVariants.{NotLeaf, TooMany, NoSavepoint, SavepointHeld, NotInConflict}
use Rattle.clr_steps.specs.Effects.{rolled_content}
use Rattle.clr_steps.specs.Refusals.{when, first_of, bad_edit, conflict_with, is_in_conflict_with, broken_where, name_in}

-- what stands at the position of a name, if it has one --------------------------------------------------

-- the position of LIVE
abbrev pub is_top : Option ℕ → Bool
is_top None = false
is_top (Some zero) = true
is_top (Some (suc k)) = false

-- the workspace at a position, if that isn't LIVE's
abbrev pub below_top : List Workspace → Option ℕ → Option Workspace
below_top ws None = None
below_top ws (Some zero) = None
below_top ws (Some (suc k)) = Some (workspace_at ws (suc k))

-- the content of the workspace at a position, whether it is kept, and its depth
abbrev pub content_at : List Workspace → Option ℕ → Content
content_at ws position = option_map_or (λ at. (workspace_at ws at).current) position no_rows

abbrev pub kept_at : List Workspace → Option ℕ → Bool
kept_at ws position = option_map_or (λ at. (workspace_at ws at).kept) position false

abbrev pub depth_at : List Workspace → Option ℕ → ℕ
depth_at ws position = option_map_or (depth_of ws) position 0

abbrev pub has_child_at : List Workspace → ℕ → Bool
has_child_at ws at = nat_lt 0 (children_of ws (workspace_at ws at).name)

-- the content of the parent where every rule is to hold in it, or else this content
abbrev pub above_or_at : List Workspace → ℕ → Content → Content
above_or_at ws at content = if kept_at ws (parent_of ws at) then content_at ws (parent_of ws at) else content

-- refusals ------------------------------------------------------------------------------------------------

-- the refusals of a command on the workspace at a position under LIVE, in order
unfoldable pub refusals_at : List Rule → List Workspace → ℕ → Command → List (Option Reply)
refusals_at book ws at (command.Remove name) = when (has_child_at ws at) NotLeaf ∷ []
refusals_at book ws at (command.Mark name savepoint) =
    let marks = (workspace_at ws at).marks in
    when (not (is_good_name savepoint)) BadName
    ∷ when (is_some (find_mark marks savepoint)) NameTaken
    ∷ when (nat_le MOST_SAVEPOINTS (saved_count marks)) TooMany
    ∷ []
refusals_at book ws at (command.Unmark name savepoint) = when (is_none (find_mark (workspace_at ws at).marks savepoint)) NoSavepoint ∷ []
refusals_at book ws at (command.RollTo name savepoint) =
    let w = workspace_at ws at in
    let position = find_mark w.marks savepoint in
    when (is_none position) NoSavepoint
    ∷ when (option_map_or (is_held w.marks) position false) SavepointHeld
    ∷ broken_where w.kept book w.current (rolled_content w savepoint)
    ∷ []
refusals_at book ws at (command.RollAll name) =
    let w = workspace_at ws at in
    when (has_child_at ws at) NotLeaf ∷ broken_where w.kept book w.current w.base ∷ []
refusals_at book ws at (command.Refresh name) =
    let w = workspace_at ws at in
    let above = content_at ws (parent_of ws at) in
    conflict_with above w ∷ broken_where w.kept book (above_or_at ws at w.current) (taken_over above (own_changes w)) ∷ []
refusals_at book ws at (command.Merge name remove) =
    let w = workspace_at ws at in
    let above = content_at ws (parent_of ws at) in
    when (remove && has_child_at ws at) NotLeaf
    ∷ conflict_with above w
    ∷ broken_where (kept_at ws (parent_of ws at)) book above (taken_over above (own_changes w))
    ∷ []
refusals_at book ws at (command.Resolve name cell keep) =
    let w = workspace_at ws at in
    let above = content_at ws (parent_of ws at) in
    when (not (is_in_conflict_with above w cell)) NotInConflict ∷ broken_where w.kept book w.current (keep_row cell keep above w).current ∷ []
refusals_at book ws at (command.Hold name) = let w = workspace_at ws at in broken_where (not w.kept) book (above_or_at ws at no_rows) w.current ∷ []
refusals_at book ws at _ = []

-- the refusal of a command where the position is none, LIVE's, or one under LIVE
abbrev pub refusal_below : Option ℕ → (ℕ → List (Option Reply)) → Option Reply
refusal_below None refusals = Some NoWorkspace
refusal_below (Some zero) refusals = Some LiveIsFixed
refusal_below (Some (suc k)) refusals = first_of (refusals (suc k))

unfoldable pub refusal_at : List TableDef → List Rule → List Workspace → Command → Option Reply
refusal_at schema book ws (command.Create name parent) =
    first_of (
    when (is_none (find ws parent)) NoWorkspace
    ∷ when (not (is_good_name name)) BadName
    ∷ when (is_some (find ws name)) NameTaken
    ∷ when (nat_le MOST_WORKSPACES (length ws) || nat_le MOST_LEVELS (depth_at ws (find ws parent))) TooMany
    ∷ []
    )
refusal_at schema book ws (command.Apply name edits) =
    let position = find ws name in
    let content = content_at ws position in
    first_of (
    when (is_none position) NoWorkspace
    ∷ option_map bad_edit (first_bad_edit schema content 1 edits)
    ∷ broken_where (kept_at ws position) book content (after_edits content edits)
    ∷ []
    )
refusal_at schema book ws c = refusal_below (find ws (name_in c)) (λ at. refusals_at book ws at c)

-- effects -------------------------------------------------------------------------------------------------

-- an operation at the position of a name, if it has one
abbrev pub at_name : List Workspace → Name → (ℕ → List Workspace) → List Workspace
at_name ws name f = at_position ws (find ws name) f

-- an operation at the position of a savepoint, if the workspace has it
abbrev pub at_savepoint : List Workspace → ℕ → Name → (ℕ → List Workspace) → List Workspace
at_savepoint ws at savepoint f = at_position ws (find_mark (workspace_at ws at).marks savepoint) f

-- the changes that edits make, written to the workspace at a position
abbrev pub edit_at : List Workspace → List Edit → ℕ → List Workspace
edit_at ws edits at = let content = (workspace_at ws at).current in tree.after_write ws at (changes content (after_edits content edits))

-- a merge, and the workspace taken away where that is asked
abbrev pub merge_at : List Workspace → Bool → ℕ → List Workspace
merge_at ws remove at = let next = tree.after_rebase ws at rebase.Merge in if remove then tree.after_remove next at else next

unfoldable pub effect_at : List Workspace → Command → List Workspace
effect_at ws (command.Create name parent) = at_name ws parent (tree.after_create ws name)
effect_at ws (command.Remove name) = at_name ws name (tree.after_remove ws)
effect_at ws (command.Apply name edits) = at_name ws name (edit_at ws edits)
effect_at ws (command.Mark name savepoint) = at_name ws name (λ at. tree.after_mark ws at savepoint)
effect_at ws (command.Unmark name savepoint) = at_name ws name (λ at. at_savepoint ws at savepoint (tree.after_unmark ws at))
effect_at ws (command.RollTo name savepoint) = at_name ws name (λ at. at_savepoint ws at savepoint (tree.after_roll_to ws at))
effect_at ws (command.RollAll name) = at_name ws name (tree.after_roll_all ws)
effect_at ws (command.Refresh name) = at_name ws name (λ at. tree.after_rebase ws at rebase.Refresh)
effect_at ws (command.Merge name remove) = at_name ws name (merge_at ws remove)
effect_at ws (command.Resolve name cell keep) = at_name ws name (λ at. tree.after_rebase ws at (rebase.OneRow cell keep))
effect_at ws (command.Hold name) = at_name ws name (λ at. tree.set_kept ws at true)
effect_at ws (command.Release name) = at_name ws name (λ at. tree.set_kept ws at false)
