-- Differences from a content: at some cells a row, or none.
use Rattle.std.specs.Prelude.{◌≡◌, T, Bool, true, false, if◌then◌else◌, not, filter, List, [], ◌∷◌, Option, Some, None, is_some, map}
use Rattle.std.specs.Coded.{Coded, coded_option}
use Rattle.std.specs.FinMap as finite
use Rattle.std.specs.Ordering.{eq_by_cmp}
use Rattle.clr_rows.specs.declared.cells.CellId.{CellId}
use Rattle.clr_rows.specs.declared.rows.Row.{Row}
use Rattle.clr_rows.specs.Cells.{cell_cmp, coded_cell}
use Rattle.clr_rows.specs.Contents.{Content, changes, coded_row, row_at, rows_after, over}
use Rattle.clr_rows.specs.Same.{same}

abbrev pub Differences : Type 0
Differences = finite.FinMap cell_cmp (Option Row)

abbrev pub coded_differences : Coded Differences
coded_differences = finite.code coded_cell (coded_option coded_row)

-- rows, or none, by cell
abbrev pub RowsByCell : Type 0
RowsByCell = List (CellId × Option Row)

abbrev pub cells_in : RowsByCell → List CellId
cells_in rows = map (λ e. e.0) rows

abbrev pub differences_of : RowsByCell → Differences
differences_of rows = finite.from_sorted rows

abbrev pub no_differences : Differences
no_differences = finite.empty

-- the differences stand in the order of cells
abbrev pub AreSorted : RowsByCell → Type 0
AreSorted rows = T (finite.is_sorted cell_cmp rows)

-- the content that is seen where differences lie over another
unfoldable pub seen_over : Content → Differences → Content
seen_over below d = over below (finite.entries d)

-- the differences that make one content of the one below: at exactly the cells where they differ
abbrev pub differences_from : Content → Content → Differences
differences_from below content = differences_of (rows_after (changes below content))

-- a difference that hasn't the row of the content below
abbrev pub is_own : Content → CellId × Option Row → Bool
is_own below e = not (same (row_at below e.0) e.1)

-- the differences that haven't the row of the content below
unfoldable pub without_neutral : Content → Differences → Differences
without_neutral below d = finite.from_sorted (filter (is_own below) (finite.entries d))

-- a difference, if there is one, has the row of the content below
abbrev pub is_neutral_over : Option Row → Option (Option Row) → Bool
is_neutral_over below None = false
is_neutral_over below (Some row) = same below row

-- a difference, if there is one, hasn't the row of the content below
abbrev pub IsOwnOver : Option Row → Option (Option Row) → Type 0
IsOwnOver below difference = is_neutral_over below difference ≡ false

-- a cell is one of some
abbrev pub is_among : List CellId → CellId → Bool
is_among [] q = false
is_among (cell ∷ cells) q = if eq_by_cmp cell_cmp q cell then true else is_among cells q

-- without the difference at a cell, where that has the row of the content below
unfoldable pub swept_cell : Content → Differences → CellId → Differences
swept_cell below d cell = if is_neutral_over (row_at below cell) (finite.get d cell) then finite.remove d cell else d

-- without the differences at some cells that have the row of the content below
unfoldable pub swept_at : Content → List CellId → Differences → Differences
swept_at below [] d = d
swept_at below (cell ∷ cells) d = swept_at below cells (swept_cell below d cell)

-- differences put one after another
unfoldable pub put_each : Differences → RowsByCell → Differences
put_each d [] = d
put_each d (e ∷ es) = put_each (finite.insert d e.0 e.1) es

abbrev pub HasDifference : Differences → CellId → Type 0
HasDifference d cell = is_some (finite.get d cell) ≡ true

-- a difference at each of these cells
abbrev pub HasDifferences : Differences → List CellId → Type 0
HasDifferences d [] = Unit {0}
HasDifferences d (cell ∷ cells) = HasDifference d cell × HasDifferences d cells
