-- The rows of a cause: those that it names, and those that served a need and go.
use Rattle.std.specs.Prelude.{◌++◌, ℕ, List, [], Option, Some, None, flat_map, option_to_list, if◌then◌else◌}
use Rattle.std.specs.Option.{option_map}
use Rattle.clr_rows.specs.declared.cells.CellId.{CellId}
use Rattle.clr_rows.specs.declared.rows.Row.{Row}
use Rattle.clr_rows.specs.Contents.{Changes}
use Rattle.clr_needs.specs.declared.needs.Need.{Need}
use Rattle.clr_needs.specs.declared.needs.VersionId.{VersionId}
use Rattle.clr_steps.specs.Offices.{Office}
use Rattle.clr_steps.specs.Quiet.{MergeSet}
use Rattle.clr_clearance.specs.MergeSets.{change_sets}
use Rattle.clr_member_changes.specs.declared.standings.Standing.{Standing}
use Rattle.clr_member_changes.specs.declared.standings.Standing.TheVariants as standing
use Rattle.clr_serving_rows.specs.declared.servers.ServerChange.{ServerChange}
use Rattle.clr_member_changes.specs.Versions.{set_row, standing_of}
use Rattle.clr_merge_sets.specs.MemberChanges.{row_in}
use Rattle.clr_map_scenes.specs.declared.shown_causes.CauseRow.{CauseRow}

-- the design that brings, changes or removes a row
abbrev pub owner_of : Standing → Option ℕ
owner_of standing.Stays = None
owner_of (standing.Changed at) = Some at
owner_of (standing.Removed at) = Some at
owner_of (standing.New at) = Some at
owner_of (standing.TakenOver at) = Some at
owner_of standing.Now = None

-- a row of a design at a cell
abbrev pub owned_row : CellId → ℕ → Row → CauseRow
owned_row cell design row = record { cell = cell; owner = Some design; row = row }

abbrev pub rows_by : CellId → ℕ → Option Row → List CauseRow
rows_by cell design row = option_to_list (option_map (owned_row cell design) row)

-- the row that a change takes away, if it takes one away
abbrev pub goer_of : List Changes → ServerChange → List CauseRow
goer_of sets e = if e.leaves then rows_by e.cell e.member (set_row (λ d. d.before) sets e.member e.cell) else []

-- the rows that some changes take away, in their order
unfoldable pub goers_among : List Changes → List ServerChange → List CauseRow
goers_among sets changes = flat_map (goer_of sets) changes

-- the first row, or else the second
abbrev pub row_or : Option Row → Option Row → Option Row
row_or None second = second
row_or (Some first) second = Some first

-- the row that a design has at a cell, or else the one that stood there before
abbrev pub shown_row : List Changes → CellId → ℕ → Option Row
shown_row sets q at = row_or (set_row (λ d. d.after) sets at q) (set_row (λ d. d.before) sets at q)

abbrev pub row_of_design : List Changes → CellId → ℕ → List CauseRow
row_of_design sets q at = rows_by q at (shown_row sets q at)

-- the rows of some designs at a cell at which they meet, in their order
unfoldable pub contested_rows : List Changes → CellId → List ℕ → List CauseRow
contested_rows sets q designs = flat_map (row_of_design sets q) designs

-- the subjects of a need -----------------------------------------------------------------------

-- the row of a version, with the design that it stands by
abbrev pub version_row : List Changes → VersionId → Row → CauseRow
version_row sets v row = record { cell = v.cell; owner = owner_of (standing_of sets v); row = row }

abbrev pub version_rows : Office → MergeSet → VersionId → List CauseRow
version_rows o s v = option_to_list (option_map (version_row (change_sets o s) v) (row_in o s v))

abbrev pub second_rows : Office → MergeSet → Option VersionId → List CauseRow
second_rows o s None = []
second_rows o s (Some v) = version_rows o s v

-- the rows of a need's subjects
abbrev pub subject_rows : Office → MergeSet → Need → List CauseRow
subject_rows o s need = version_rows o s need.first ++ second_rows o s need.second
