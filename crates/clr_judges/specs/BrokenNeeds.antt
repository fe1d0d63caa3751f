-- The needs that the kept workspaces of a tree break.
use Rattle.std.specs.Prelude.{◌≡◌, ◌↔◌, ◌<◌, ℕ, true, List, Contains}
use Rattle.std.specs.List.Sorted.{IsStrictlySortedBy}
use Rattle.clr_rows.specs.Contents.{row_at}
use Rattle.clr_rules.specs.declared.needs.Broken.{Broken}
use Rattle.clr_rules.specs.declared.rules.Rule.{Rule}
use Rattle.clr_rules.specs.Needs.{IsBroken, broken_cmp}
use Rattle.clr_workspaces.specs.Workspaces.{Workspace, workspace_at}

-- a workspace at a position below a count is kept and breaks a need
abbrev pub IsBrokenBelow : List Rule → List Workspace → ℕ → Broken → Type 0
IsBrokenBelow book ws count need =
    (at : ℕ) × (at < count) × ((workspace_at ws at).kept ≡ true) × IsBroken book (row_at (workspace_at ws at).current) need

-- just the needs that the first workspaces break, as many as a count says, where they are kept; ascending, each once
pub record AreBrokenBelow (book : List Rule) (ws : List Workspace) (count : ℕ) (list : List Broken) : Type 0 where
  pub ascending : IsStrictlySortedBy broken_cmp list
  pub exactly : (need : Broken) → Contains list need ↔ IsBrokenBelow book ws count need
