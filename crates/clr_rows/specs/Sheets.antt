-- What the rows that a sheet lists by cell mean.
use Rattle.std.specs.Prelude.{T, List, [], Option, Some, None, map, filter, not, is_some}
use Rattle.std.specs.FinMap as finite
use Rattle.clr_rows.specs.declared.cells.CellId.{CellId}
use Rattle.clr_rows.specs.declared.places.Shape.TheVariants.{Bare}
use Rattle.clr_rows.specs.declared.rows.Row.{Row}
use Rattle.clr_rows.specs.Cells.{cell_cmp}
use Rattle.clr_rows.specs.Contents.{Content, row_at}
use Rattle.clr_rows.specs.Ranges.{AreWithin}

abbrev pub sheet_content : List (CellId × Row) → Content
sheet_content rows = finite.from_sorted rows

-- rows in the order of their cells, each with numbers within 64 bits
pub record IsSoundSheet (rows : List (CellId × Row)) : Type 0 where
  pub ascending : T (finite.is_sorted cell_cmp rows)
  pub within : AreWithin (sheet_content rows)

-- the row that stands at a cell until the cell gets its own
abbrev pub placeholder : Row
placeholder = record { values = []; shape = Bare }

-- no row at each of these cells
abbrev pub with_none : List CellId → List (CellId × Option Row)
with_none cells = map (λ cell. (cell, None)) cells

-- a placeholder at each of these cells
abbrev pub with_placeholders : List CellId → List (CellId × Option Row)
with_placeholders cells = map (λ cell. (cell, Some placeholder)) cells

-- rows at their cells, each as one that stands
abbrev pub with_rows : List (CellId × Row) → List (CellId × Option Row)
with_rows rows = map (λ e. (e.0, Some e.1)) rows

-- the cells of a list
abbrev pub named_cells : List (CellId × Option Row) → List CellId
named_cells rows = map (λ e. e.0) rows

-- of some cells, those that have no row
abbrev pub cells_without_rows : Content → List CellId → List CellId
cells_without_rows content cells = filter (λ cell. not (is_some (row_at content cell))) cells
