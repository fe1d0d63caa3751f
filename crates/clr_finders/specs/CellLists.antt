-- Lists of cells.
use Rattle.std.specs.Prelude.{Bool, List}
use Rattle.std.specs.List.{list_any}
use Rattle.std.specs.Ordering.{eq_by_cmp}
use Rattle.clr_rows.specs.declared.cells.CellId.{CellId}
use Rattle.clr_rows.specs.Cells.{cell_cmp}

abbrev pub is_one_of : List CellId → CellId → Bool
is_one_of cells q = list_any (eq_by_cmp cell_cmp q) cells
