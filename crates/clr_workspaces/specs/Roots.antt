-- Workspaces that form a tree.
use Rattle.std.specs.Prelude.{◌≡◌, ℕ, ◌<◌, true, List, [], length, Some}
use Rattle.clr_rows.specs.Names.{is_good_name, live_name}
use Rattle.clr_workspaces.specs.Workspaces.{Workspace, workspace_at, find, parent_of}

-- LIVE is first; names are good, and each finds its own position; the parent of each later workspace stands before it
pub record IsRooted (ws : List Workspace) : Type 0 where
  pub filled : 0 < length ws
  pub live : (workspace_at ws 0).name ≡ live_name
  pub top : (workspace_at ws 0).parent ≡ []
  pub good : (i : ℕ) → i < length ws → is_good_name (workspace_at ws i).name ≡ true
  pub own : (i : ℕ) → i < length ws → find ws (workspace_at ws i).name ≡ Some i
  pub under : (i : ℕ) → 0 < i → i < length ws → (p : ℕ) × (parent_of ws i ≡ Some p) × (p < i)
