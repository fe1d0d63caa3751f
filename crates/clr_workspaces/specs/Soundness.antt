-- What holds of the workspaces of every tree.
use Rattle.std.specs.Prelude.{◌≡◌, ℕ, ◌<◌, ◌≤◌, Bool, true, ◌&&◌, List, [], length, nat_le}
use Rattle.std.specs.List.{list_all}
use Rattle.clr_rows.specs.Contents.{no_rows}
use Rattle.clr_rows.specs.Names.{is_good_name}
use Rattle.clr_rows.specs.Schemas.{are_distinct}
use Rattle.clr_workspaces.specs.Marks.{Name, mark_count, saved_names}
use Rattle.clr_workspaces.specs.Workspaces.{Workspace, workspace_at, child_count, depth_of}
use Rattle.clr_workspaces.specs.Roots.{IsRooted}
use Rattle.clr_workspaces.specs.declared.limits.TheConstants.{MOST_WORKSPACES, MOST_LEVELS, MOST_SAVEPOINTS}

-- names of savepoints: good, different, and not too many
abbrev pub are_good_savepoints : List Name → Bool
are_good_savepoints names = list_all is_good_name names && are_distinct names && nat_le (length names) MOST_SAVEPOINTS

-- the child marks are the children, each once: a name stands as often among the marks as among the children
abbrev pub HasChildMarks : List Workspace → Workspace → Type 0
HasChildMarks ws w = (name : Name) → mark_count w.marks name ≡ child_count ws w.name name

-- LIVE has no base and no marks, and every rule is to hold in it; there are not too many workspaces, and none is too deep;
-- names of savepoints are good, and the child marks are the children
pub record IsSound (ws : List Workspace) : Type 0 where
  pub rooted : IsRooted ws
  pub few : length ws ≤ MOST_WORKSPACES
  pub shallow : (i : ℕ) → i < length ws → depth_of ws i ≤ MOST_LEVELS
  pub base : (workspace_at ws 0).base ≡ no_rows
  pub bare : (workspace_at ws 0).marks ≡ []
  pub held : (workspace_at ws 0).kept ≡ true
  pub saved : (i : ℕ) → i < length ws → are_good_savepoints (saved_names (workspace_at ws i).marks) ≡ true
  pub marked : (i : ℕ) → 0 < i → i < length ws → HasChildMarks ws (workspace_at ws i)
