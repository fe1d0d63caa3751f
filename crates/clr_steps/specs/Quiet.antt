-- Commands that are quiet for a merge set, and what they leave as it is.
use Rattle.std.specs.Prelude.{◌≡◌, Bool, true, false, not, ◌||◌, ◌&&◌, List}
use Rattle.std.specs.Option.{option_map, option_map_or}
use Rattle.clr_rows.specs.Contents.{Content}
use Rattle.clr_workspaces.specs.Workspaces.{Workspace}
use Rattle.clr_steps.specs.declared.commands.Command.{Command}
use Rattle.clr_steps.specs.declared.commands.Command.TheVariants as command
use Rattle.clr_workspaces.specs.Marks.{Name}
use Rattle.clr_steps.specs.Names.{same_name, has}
use Rattle.clr_steps.specs.Offices.{Office, workspace, content_of, is_kept}

-- a root, and the names of those of its children that are to be merged
pub record MergeSet : Type 0 where
  pub root : Name
  pub members : List Name

unfoldable pub is_root : MergeSet → Name → Bool
is_root merge_set name = same_name name merge_set.root

abbrev pub is_member : MergeSet → Name → Bool
is_member merge_set name = has merge_set.members name

-- neither the root nor a member
unfoldable pub is_other : MergeSet → Name → Bool
is_other merge_set name = not (is_root merge_set name) && not (is_member merge_set name)

-- the workspace stands, and its parent is neither the root nor a member
unfoldable pub is_under_other : Office → MergeSet → Name → Bool
is_under_other o merge_set ws = option_map_or (λ w. is_other merge_set w.parent) (workspace o ws) false

-- whether a command is quiet for a merge set in the office in which it is given; a removed member stays a member
unfoldable pub is_quiet : Office → MergeSet → Command → Bool
is_quiet o merge_set (command.Create name parent) = not (is_member merge_set name)
is_quiet o merge_set (command.Remove ws) = is_other merge_set ws
is_quiet o merge_set (command.Apply ws edits) = is_other merge_set ws
is_quiet o merge_set (command.Mark ws name) = is_member merge_set ws || is_other merge_set ws
is_quiet o merge_set (command.Unmark ws name) = is_member merge_set ws || is_other merge_set ws
is_quiet o merge_set (command.RollTo ws name) = is_other merge_set ws
is_quiet o merge_set (command.RollAll ws) = is_other merge_set ws
is_quiet o merge_set (command.Refresh ws) = is_member merge_set ws || not (is_root merge_set ws)
is_quiet o merge_set (command.Merge ws remove) = is_member merge_set ws || (not (is_root merge_set ws) && is_under_other o merge_set ws)
is_quiet o merge_set (command.Resolve ws cell keep) = is_other merge_set ws
is_quiet o merge_set (command.Hold ws) = true
is_quiet o merge_set (command.Release ws) = not (is_root merge_set ws)

-- a merge or a refresh of a member
abbrev pub is_of_member : MergeSet → Command → Bool
is_of_member merge_set (command.Refresh ws) = is_member merge_set ws
is_of_member merge_set (command.Merge ws remove) = is_member merge_set ws
is_of_member merge_set _ = false

-- what quiet commands leave -------------------------------------------------------------------------------

-- the root's current content
unfoldable pub root_content : Office → MergeSet → Content
root_content o merge_set = content_of o merge_set.root

-- the root stands, and every rule is to hold in it
abbrev pub IsRootKept : Office → MergeSet → Type 0
IsRootKept o merge_set = is_kept o merge_set.root ≡ true

-- a member's parent and contents
pub record Member : Type 0 where
  pub parent : Name
  pub base : Content
  pub current : Content

abbrev pub member_of : Workspace → Member
member_of w = record { parent = w.parent; base = w.base; current = w.current }

-- the root's rows, that it is kept, and each member's parent, base and current rows stay; no member goes, and none comes back
pub record LeavesMergeSet (merge_set : MergeSet) (before after : Office) : Type 0 where
  pub root : root_content after merge_set ≡ root_content before merge_set
  pub kept : IsRootKept before merge_set → IsRootKept after merge_set
  pub members : (name : Name) → is_member merge_set name ≡ true → option_map member_of (workspace after name) ≡ option_map member_of (workspace before name)
