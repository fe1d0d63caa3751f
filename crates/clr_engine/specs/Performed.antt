-- A command on the workspace at a position, answered and performed.
use Rattle.std.specs.Prelude.{ℕ, List}
use Rattle.clr_rules.specs.declared.rules.Rule.{Rule}
use Rattle.clr_workspaces.specs.Marks.{Name}
use Rattle.clr_workspaces.specs.Workspaces.{Workspace, workspace_at}
use Rattle.clr_steps.specs.declared.commands.Command.{Command}
use Rattle.clr_steps.specs.declared.commands.Reply.{Reply}
use Rattle.clr_steps.specs.Laws.{IsPerformed}
use Rattle.clr_steps.specs.Positions.{refusals_at}
use Rattle.clr_steps.specs.Refusals.{first_of}

-- the name of the workspace at a position
abbrev pub name_of : List Workspace → ℕ → Name
name_of ws at = (workspace_at ws at).name

-- a command on the workspace at a position under LIVE is answered and leaves
abbrev pub IsPerformedAt : List Rule → Command → ℕ → List Workspace → List Workspace → Reply → List Workspace → Type 0
IsPerformedAt book c at ws next reply left = IsPerformed (first_of (refusals_at book ws at c)) ws next reply left
