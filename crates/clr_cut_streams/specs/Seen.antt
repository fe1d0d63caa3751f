-- The cells of rows so far at which a cut has a row.
use Rattle.std.specs.Prelude.{◌≡◌, Bool, List, None, is_some, if◌then◌else◌}
use Rattle.std.specs.FinMap as finite
use Rattle.std.specs.List.{list_any}
use Rattle.std.specs.Ordering.{eq_by_cmp}
use Rattle.clr_rows.specs.declared.cells.CellId.{CellId}
use Rattle.clr_rows.specs.Cells.{cell_cmp}
use Rattle.clr_deltas.specs.Differences.{Differences}

-- differences with one cell more, at which there is no row, where it is to be noted
abbrev pub with_cell_if : Bool → Differences → CellId → Differences
with_cell_if b seen q = if b then finite.insert seen q None else seen

-- just these cells are noted
abbrev pub AreNoted : Differences → List CellId → Type 0
AreNoted seen cells = (q : CellId) → is_some (finite.get seen q) ≡ list_any (eq_by_cmp cell_cmp q) cells
