-- The contents of a tree in which no command may break a need anew, and their finders.
use Rattle.std.specs.Prelude.{◌≡◌, ℕ, List, Option, Some, None, if◌then◌else◌, map}
use Rattle.clr_rows.specs.Contents.{Changes, Content, taken_over}
use Rattle.clr_rules.specs.declared.rules.Rule.{Rule}
use Rattle.clr_workspaces.specs.Workspaces.{Workspace, workspace_at}
use Rattle.clr_finders.specs.RowMaps.{FiledRows}
use Rattle.clr_grid.specs.Finders.{AreFinders, HasNoted, IsChangedAt}

-- the content of a workspace in which no command may break a need anew
abbrev pub kept_content : Workspace → Option Content
kept_content w = if w.kept then Some w.current else None

abbrev pub kept_contents : List Workspace → List (Option Content)
kept_contents ws = map kept_content ws

-- whatever the rules are, finders of workspaces go on being finders of what is left
abbrev pub StayFinders : List Workspace → List (Option FiledRows) → List Workspace → List (Option FiledRows) → Type 0
StayFinders ws old left new = (book : List Rule) → AreFinders book (kept_contents ws) old → AreFinders book (kept_contents left) new

-- the finder of a workspace, if it has one, has noted changes that lead to a content
pub record IsPrepared (book : List Rule) (ws : List Workspace) (at : ℕ) (next : Content) (finders : List (Option FiledRows)) : Type 0 where
  pub before : List (Option FiledRows)
  pub were : AreFinders book (kept_contents ws) before
  pub changed : Changes
  pub leads : taken_over (workspace_at ws at).current changed ≡ next
  pub noted : IsChangedAt (HasNoted book changed) at before finders
