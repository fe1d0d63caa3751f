use Rattle.std.proofs.Common.{◌≡◌, ◌++◌, ◌∷◌, [], drop}
use Rattle.std.specs.List.{flat_map}
use Rattle.clr_office_reports.specs.Workspaces.{names_below_live, workspace_line, workspaces_text}
use Rattle.clr_office_reports.proofs.workspaces.workspaces_lines.Given as goal

-- the lines so far, with those of the workspaces that are left, are all the lines; LIVE has position 0
abbrev pub invariant-loop-position : goal.invariant-loop-position
invariant-loop-position l = l.lines.items ++ flat_map (workspace_line l.office) (drop l.position ([] ∷ names_below_live l.office)) ≡ workspaces_text l.office
