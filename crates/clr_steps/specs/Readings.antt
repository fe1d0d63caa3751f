-- What is shown of an office by name.
use Rattle.std.specs.Prelude.{ℕ, zero, suc, ◌+◌, List, [], Option, Some, None, if◌then◌else◌, length, slice_get}
use Rattle.std.specs.FinMap as finite
use Rattle.std.specs.Option.{option_map, option_map_or}
use Rattle.clr_rows.specs.declared.cells.CellId.{CellId}
use Rattle.clr_rows.specs.Contents.{Changes, no_changes, changes, conflicts}
use Rattle.clr_rows.specs.Names.{live_name}
use Rattle.clr_workspaces.specs.Marks.{Name}
use Rattle.clr_workspaces.specs.Operations.{own_changes}
use Rattle.clr_steps.specs.Offices.{Office, workspace, stands, content_of}

-- a value of LIVE or of a workspace, where one has the name
abbrev pub if_stands : {A : Type 0} → Office → Name → A → Option A
if_stands o name value = if stands o name then Some value else None

-- the name of a workspace's parent, which LIVE lacks
abbrev pub parent_in : Office → Name → Option Name
parent_in o name = option_map (λ w. w.parent) (workspace o name)

-- what LIVE or a workspace changed; LIVE, which has no base, changed nothing
abbrev pub changes_in : Office → Name → Changes
changes_in o name = option_map_or own_changes (workspace o name) no_changes

-- the changed cells where the parent has another row than the base, ascending
abbrev pub conflicts_in : Office → Name → List CellId
conflicts_in o name = option_map_or (λ w. conflicts (content_of o w.parent) (own_changes w)) (workspace o name) []

-- at how many cells the base differs from the parent's content, and how many the workspace changed
abbrev pub stored_in : Office → Name → ℕ
stored_in o name =
    option_map_or (λ w. length (finite.keys (changes (content_of o w.parent) w.base)) + length (finite.keys (own_changes w))) (workspace o name) 0

-- the name at a position in order of creation, LIVE being the first
abbrev pub name_at : Office → ℕ → Option Name
name_at o zero = Some live_name
name_at o (suc at) = option_map (λ w. w.name) (slice_get o.workspaces at)
