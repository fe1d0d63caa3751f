-- The lines of all workspaces of an office.
use Rattle.std.specs.Prelude.{ℕ, List, [], ◌++◌, codes, length, map, unwrap_or}
use Rattle.std.specs.FinMap as finite
use Rattle.std.specs.List.{flat_map}
use Rattle.clr_workspaces.specs.Marks.{Name}
use Rattle.clr_lines.specs.Reports.{count_line, workspace_text}
use Rattle.clr_steps.specs.Offices.{Office, is_kept}
use Rattle.clr_steps.specs.Readings.{changes_in, conflicts_in, parent_in}

-- a workspace: its parent, how many changes it has, how many cells are in conflict with its parent, and whether every rule is to hold in it
abbrev pub workspace_line : Office → Name → List ℕ
workspace_line o name =
    workspace_text name (unwrap_or (parent_in o name) []) (length (finite.keys (changes_in o name))) (length (conflicts_in o name)) (is_kept o name)

-- the names of the workspaces under LIVE, in order of creation
abbrev pub names_below_live : Office → List Name
names_below_live o = map (λ w. w.name) o.workspaces

-- how many workspaces there are under LIVE, and then each
unfoldable pub workspaces_text : Office → List ℕ
workspaces_text o = count_line (codes "workspaces") (length o.workspaces) ++ flat_map (workspace_line o) (names_below_live o)
