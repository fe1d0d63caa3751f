-- The rows that change sets have at a cell, and where a version stands.
use Rattle.std.specs.Prelude.{ℕ, List, Option, Some, None, slice_get, is_some, if◌then◌else◌}
use Rattle.std.specs.FinMap as finite
use Rattle.clr_rows.specs.declared.cells.CellId.{CellId}
use Rattle.clr_rows.specs.declared.cells.Change.{Change}
use Rattle.clr_rows.specs.declared.rows.Row.{Row}
use Rattle.clr_rows.specs.Contents.{Changes}
use Rattle.clr_needs.specs.declared.needs.VersionId.{VersionId}
use Rattle.clr_needs.specs.Members.{after_of, positions}
use Rattle.clr_needs.specs.Settings.{first_changer}
use Rattle.clr_member_changes.specs.declared.standings.Standing.{Standing}
use Rattle.clr_member_changes.specs.declared.standings.Standing.TheVariants.{Changed, New, Removed, Stays}

abbrev pub row_by : (Change → Option Row) → Option Change → Option Row
row_by f None = None
row_by f (Some change) = f change

-- the row before or after the change that the change set of a position has at a cell, if it has one
abbrev pub change_row : (Change → Option Row) → Option Changes → CellId → Option Row
change_row f None q = None
change_row f (Some set) q = row_by f (finite.get set q)

abbrev pub set_row : (Change → Option Row) → List Changes → ℕ → CellId → Option Row
set_row f sets at q = change_row f (slice_get sets at) q

-- the row that the first of some change sets that changes a cell has there afterwards
abbrev pub row_of_changer : List Changes → CellId → Option ℕ → Option Row
row_of_changer sets q None = None
row_of_changer sets q (Some at) = set_row (λ e. e.after) sets at q

abbrev pub new_row_at : List Changes → CellId → Option Row
new_row_at sets q = row_of_changer sets q (first_changer (after_of sets) (positions sets) q)

-- where a version stands, by the first member that changes its cell: that one brings it, or has another row there, or takes the root's row away
abbrev pub standing_by : List Changes → VersionId → Option ℕ → Standing
standing_by sets v None = Stays
standing_by sets v (Some at) =
    if v.fresh then New at
    else (if is_some (set_row (λ e. e.after) sets at v.cell) then Changed at else Removed at)

abbrev pub standing_of : List Changes → VersionId → Standing
standing_of sets v = standing_by sets v (first_changer (after_of sets) (positions sets) v.cell)
