-- Contents: finite maps from cells to rows, what differs between two, and a content with changes over it.
use Rattle.std.specs.Prelude.{ℕ, Bool, not, List, [], ◌∷◌, ◌++◌, Option, Some, None, length, filter, map, if◌then◌else◌}
use Rattle.std.specs.Coded.{Coded}
use Rattle.std.specs.FinMap as finite
use Rattle.clr_rows.specs.declared.cells.CellId.{CellId}
use Rattle.clr_rows.specs.declared.rows.Row.{Row}
use Rattle.clr_rows.specs.declared.cells.Change.{Change}
use Rattle.clr_rows.specs.contracts.rows.Row as row_type
use Rattle.clr_rows.specs.contracts.cells.Change as change_type
use Rattle.clr_rows.specs.Cells.{cell_cmp, coded_cell}
use Rattle.clr_rows.specs.Same.{same}

abbrev pub Content : Type 0
Content = finite.FinMap cell_cmp Row

abbrev pub coded_row : Coded Row
coded_row = row_type.the_row.coded

abbrev pub coded_content : Coded Content
coded_content = finite.code coded_cell coded_row

-- the row at a cell, or none
abbrev pub row_at : Content → CellId → Option Row
row_at content cell = finite.get content cell

abbrev pub no_rows : Content
no_rows = finite.empty

-- the cells that have a row, ascending
abbrev pub cells_of : Content → List CellId
cells_of content = finite.keys content

-- a cell set to a row, or to none
abbrev pub set_cell : Content → CellId → Option Row → Content
set_cell content cell None = finite.remove content cell
set_cell content cell (Some row) = finite.insert content cell row

-- a content with rows, or none, put over it at some cells
unfoldable pub over : Content → List (CellId × Option Row) → Content
over content [] = content
over content (e ∷ es) = over (set_cell content e.0 e.1) es

abbrev pub coded_change : Coded Change
coded_change = change_type.the_row.coded

-- what changed, by cell
abbrev pub Changes : Type 0
Changes = finite.FinMap cell_cmp Change

-- no cell is changed
abbrev pub no_changes : Changes
no_changes = finite.empty

abbrev pub coded_changes : Coded Changes
coded_changes = finite.code coded_cell coded_change

-- whether two contents differ at a cell, a missing row counting as a value
abbrev pub is_changed : Content → Content → CellId → Bool
is_changed base current cell = not (same (row_at base cell) (row_at current cell))

-- what a content has at a cell where it differs from its base
abbrev pub change_at : Content → Content → CellId → Option (Option Row)
change_at base current cell = if is_changed base current cell then Some (row_at current cell) else None

-- what changed at a cell
abbrev pub change_of : Content → Content → CellId → Change
change_of base current cell = record { before = row_at base cell; after = row_at current cell }

-- the changed cells, with both rows
unfoldable pub changes : Content → Content → Changes
changes base current =
    finite.from_entries (map (λ cell. (cell, change_of base current cell)) (filter (is_changed base current) (cells_of base ++ cells_of current)))

-- the rows after the changes, by cell
abbrev pub rows_after : Changes → List (CellId × Option Row)
rows_after changed = map (λ e. (e.0, e.1.after)) (finite.entries changed)

-- a content taken over by changes
abbrev pub taken_over : Content → Changes → Content
taken_over content changed = over content (rows_after changed)

-- whether a target's row differs from the row before a change
abbrev pub is_conflict : Content → CellId × Change → Bool
is_conflict target e = not (same (row_at target e.0) e.1.before)

-- the changed cells where the target's row differs from the row before the change, ascending
unfoldable pub conflicts : Content → Changes → List CellId
conflicts target changed = map (λ e. e.0) (filter (is_conflict target) (finite.entries changed))

-- the least of some cells, and how many there are
abbrev pub least_and_count : List CellId → Option (CellId × ℕ)
least_and_count [] = None
least_and_count (cell ∷ cells) = Some (cell, length (cell ∷ cells))
