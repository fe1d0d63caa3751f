-- Sets of cells.
use Rattle.std.specs.Prelude.{Bool, List, [], ◌∷◌}
use Rattle.std.specs.Coded.{Coded}
use Rattle.std.specs.FinSet as set
use Rattle.std.specs.Ordering.{eq_by_cmp}
use Rattle.clr_rows.specs.declared.cells.CellId.{CellId}
use Rattle.clr_rows.specs.Cells.{cell_cmp, coded_cell}

abbrev pub Cells : Type 0
Cells = set.FinSet cell_cmp

abbrev pub coded_cells : Coded Cells
coded_cells = set.code coded_cell

-- two cells are one
abbrev pub is_one : CellId → CellId → Bool
is_one cell q = eq_by_cmp cell_cmp cell q

-- a set with the cells of a list
abbrev pub with_listed_cells : Cells → List CellId → Cells
with_listed_cells m [] = m
with_listed_cells m (q ∷ qs) = with_listed_cells (set.insert m q) qs
