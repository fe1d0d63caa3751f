-- Why each command is refused, in order; the first refusal that applies is the answer.
use Rattle.std.specs.Prelude.{ℕ, zero, suc, ◌+◌, Bool, false, not, ◌||◌, ◌&&◌, List}
use Rattle.std.specs.Prelude.{[], ◌∷◌, Option, Some, None, if◌then◌else◌, length, is_none, is_some, nat_le, slice_get}
use Rattle.std.specs.List.{list_any}
use Rattle.std.specs.Option.{option_or, option_map, option_map_or}
use Rattle.clr_rows.specs.declared.cells.CellId.{CellId}
use Rattle.clr_rows.specs.Contents.{Content, no_rows, is_changed, change_of, is_conflict, conflicts, least_and_count}
use Rattle.clr_rows.specs.Names.{is_good_name}
use Rattle.clr_change.specs.declared.edits.Edit.{Edit}
use Rattle.clr_change.specs.declared.edits.EditFault.{EditFault}
use Rattle.clr_change.specs.Edits.{first_bad_edit}
use Rattle.clr_rules.specs.declared.needs.Broken.{Broken}
use Rattle.clr_rules.specs.declared.rules.Rule.{Rule}
use Rattle.clr_rules.specs.Needs.{broken_needs, newly_broken_needs}
use Rattle.clr_workspaces.specs.Marks.{find_mark, is_held, saved_count, Name}
use Rattle.clr_workspaces.specs.Workspaces.{Workspace}
use Rattle.clr_workspaces.specs.Operations.{own_changes}
use Rattle.clr_workspaces.specs.declared.limits.TheConstants.{MOST_WORKSPACES, MOST_LEVELS, MOST_SAVEPOINTS}
use Rattle.clr_steps.specs.declared.commands.Command.{Command}
use Rattle.clr_steps.specs.declared.commands.Command.TheVariants as command
use Rattle.clr_steps.specs.declared.commands.Reply.{Reply}
use Rattle.clr_steps.specs.declared.commands.Reply.TheVariants.{NoWorkspace, NameTaken, BadName, LiveIsFixed, NotLeaf, TooMany}
use Rattle.clr_steps.specs.declared.commands.Reply.TheVariants.{NoSavepoint, SavepointHeld, BadEdit, Conflict, NotInConflict, RuleBroken}
use Rattle.clr_steps.specs.Names.{same_name, is_live}
use Rattle.clr_steps.specs.Offices.{Office, workspace, stands, content_of, is_kept}
use Rattle.clr_steps.specs.Effects.{edited_content, rolled_content, merged_content, resolved_content}

abbrev pub when : Bool → Reply → Option Reply
when test reply = if test then Some reply else None

-- the first refusal that applies
abbrev pub first_of : List (Option Reply) → Option Reply
first_of [] = None
first_of (r ∷ rs) = option_or r (first_of rs)

-- limits -----------------------------------------------------------------------------------------------

-- how many steps a name is under LIVE, counted up to a limit
unfoldable pub depth_within : ℕ → Office → Name → ℕ
depth_within zero o name = 0
depth_within (suc most) o name = option_map_or (λ w. depth_within most o w.parent + 1) (workspace o name) 0

-- how many steps a name is under LIVE; there are no more of them than workspaces
abbrev pub depth : Office → Name → ℕ
depth o name = depth_within (length o.workspaces) o name

-- with LIVE, there are as many workspaces as there may be
abbrev pub is_full : Office → Bool
is_full o = nat_le MOST_WORKSPACES (length o.workspaces + 1)

-- no workspace may stand under the parent, since it is too deep
abbrev pub is_deep : Office → Name → Bool
is_deep o parent = nat_le MOST_LEVELS (depth o parent)

-- what is looked at ------------------------------------------------------------------------------------

unfoldable pub has_child : Office → Name → Bool
has_child o name = list_any (λ w. same_name name w.parent) o.workspaces

abbrev pub bad_edit : ℕ × EditFault → Reply
bad_edit e = BadEdit e.0 e.1

unfoldable pub edit_refusal : Office → Name → List Edit → Option Reply
edit_refusal o ws edits = option_map bad_edit (first_bad_edit o.schema (content_of o ws) 1 edits)

abbrev pub in_conflict : CellId × ℕ → Reply
in_conflict c = Conflict c.0 c.1

-- a workspace's conflicts with its parent's content: the least cell, and how many there are
abbrev pub conflict_with : Content → Workspace → Option Reply
conflict_with above w = option_map in_conflict (least_and_count (conflicts above (own_changes w)))

unfoldable pub conflict : Office → Workspace → Option Reply
conflict o w = conflict_with (content_of o w.parent) w

-- whether a cell of the workspace is in conflict with the content
abbrev pub is_in_conflict_with : Content → Workspace → CellId → Bool
is_in_conflict_with above w cell = is_changed w.base w.current cell && is_conflict above (cell, change_of w.base w.current cell)

unfoldable pub is_in_conflict : Office → Workspace → CellId → Bool
is_in_conflict o w cell = is_in_conflict_with (content_of o w.parent) w cell

-- the least broken need of a content
unfoldable pub first_broken : List Rule → Content → Option Broken
first_broken book content = slice_get (broken_needs book content) 0

-- the least need that a content breaks, and the content before doesn't
unfoldable pub first_newly_broken : List Rule → Content → Content → Option Broken
first_newly_broken book before content = slice_get (newly_broken_needs book before content) 0

-- where every rule is to hold, the least need that the content breaks, and the content before doesn't
abbrev pub broken_where : Bool → List Rule → Content → Content → Option Reply
broken_where kept book before content = if kept then option_map RuleBroken (first_newly_broken book before content) else None

-- the least need that a content would break anew in LIVE or a workspace that is kept
unfoldable pub breaks : Office → Name → Content → Option Reply
breaks o name content = broken_where (is_kept o name) o.book (content_of o name) content

-- the content of the parent where every rule is to hold in it, or else this content
abbrev pub above_or : Office → Workspace → Content → Content
above_or o w content = if is_kept o w.parent then content_of o w.parent else content

-- the least need that a refresh would break anew in a workspace that is kept: the parent, where it is kept, doesn't break it, and else the workspace
-- doesn't now
unfoldable pub refresh_breaks : Office → Workspace → Option Reply
refresh_breaks o w = broken_where (is_kept o w.name) o.book (above_or o w w.current) (merged_content o w)

-- the least need that is broken in a workspace that isn't kept yet: the parent, where it is kept, doesn't break it
unfoldable pub hold_breaks : Office → Workspace → Option Reply
hold_breaks o w = broken_where (not w.kept) o.book (above_or o w no_rows) w.current

-- refusals ---------------------------------------------------------------------------------------------

-- the refusals of a command on a workspace that stands, in order; Create and Apply may be on LIVE too
unfoldable pub refusals_of : Office → Workspace → Command → List (Option Reply)
refusals_of o w (command.Remove ws) = when (has_child o w.name) NotLeaf ∷ []
refusals_of o w (command.Mark ws name) =
    when (not (is_good_name name)) BadName
    ∷ when (is_some (find_mark w.marks name)) NameTaken
    ∷ when (nat_le MOST_SAVEPOINTS (saved_count w.marks)) TooMany
    ∷ []
refusals_of o w (command.Unmark ws name) = when (is_none (find_mark w.marks name)) NoSavepoint ∷ []
refusals_of o w (command.RollTo ws name) =
    when (is_none (find_mark w.marks name)) NoSavepoint
    ∷ when (option_map_or (is_held w.marks) (find_mark w.marks name) false) SavepointHeld
    ∷ breaks o w.name (rolled_content w name)
    ∷ []
refusals_of o w (command.RollAll ws) = when (has_child o w.name) NotLeaf ∷ breaks o w.name w.base ∷ []
refusals_of o w (command.Refresh ws) = conflict o w ∷ refresh_breaks o w ∷ []
refusals_of o w (command.Merge ws remove) = when (remove && has_child o w.name) NotLeaf ∷ conflict o w ∷ breaks o w.parent (merged_content o w) ∷ []
refusals_of o w (command.Resolve ws cell keep) = when (not (is_in_conflict o w cell)) NotInConflict ∷ breaks o w.name (resolved_content o w cell keep) ∷ []
refusals_of o w (command.Hold ws) = hold_breaks o w ∷ []
refusals_of o w _ = []

-- the name of the workspace that a command is on; for Create it is the parent's
abbrev pub name_in : Command → Name
name_in (command.Create name parent) = parent
name_in (command.Remove ws) = ws
name_in (command.Apply ws edits) = ws
name_in (command.Mark ws name) = ws
name_in (command.Unmark ws name) = ws
name_in (command.RollTo ws name) = ws
name_in (command.RollAll ws) = ws
name_in (command.Refresh ws) = ws
name_in (command.Merge ws remove) = ws
name_in (command.Resolve ws cell keep) = ws
name_in (command.Hold ws) = ws
name_in (command.Release ws) = ws

-- why a command that LIVE doesn't take is refused, if it is
abbrev pub refusal_on : Office → Command → Option Reply
refusal_on o c =
    if is_live (name_in c) then Some LiveIsFixed
    else option_map_or (λ w. first_of (refusals_of o w c)) (workspace o (name_in c)) (Some NoWorkspace)

-- why a command is refused, if it is; LIVE takes only Create and Apply
unfoldable pub refusal : Office → Command → Option Reply
refusal o (command.Create name parent) =
    first_of (
    when (not (stands o parent)) NoWorkspace
    ∷ when (not (is_good_name name)) BadName
    ∷ when (stands o name) NameTaken
    ∷ when (is_full o || is_deep o parent) TooMany
    ∷ []
    )
refusal o (command.Apply ws edits) = first_of (when (not (stands o ws)) NoWorkspace ∷ edit_refusal o ws edits ∷ breaks o ws (edited_content o ws edits) ∷ [])
refusal o c = refusal_on o c
