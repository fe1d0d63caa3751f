use Rattle.std.proofs.Common.{nat_eq, ◌≡◌, ◌||◌, take}
use Rattle.std.specs.HashMap.{get}
use Rattle.std.specs.FinSet as set
use Rattle.std.specs.List.{list_any}
use Rattle.clr_rows.specs.declared.cells.CellId.{CellId}
use Rattle.clr_grid.specs.Filing.{has_cell}
use Rattle.clr_grid.specs.SpotNumbers.{spot_number_of}
use Rattle.clr_grid.proofs.side_index.SideIndex.add_cells_at_each.Given as goal

-- the cells at the spots so far were added
abbrev pub invariant-loop-spot : goal.invariant-loop-spot
invariant-loop-spot l = (q : CellId) → set.contains l.cells q ≡
    (set.contains l.fn.cells q || list_any (λ x. has_cell (get nat_eq l.self.by_spot (spot_number_of x)) q) (take l.spot-index l.spots))
