use Rattle.std.proofs.Common.{nat_eq, ℕ, ◌≡◌, ◌⊎◌, true, take}
use Rattle.clr_rows.specs.declared.cells.CellId.{CellId}
use Rattle.std.specs.HashMap.{get}
use Rattle.std.specs.List.{list_any}
use Rattle.clr_grid.specs.SpotNumbers.{has_number}
use Rattle.clr_grid.specs.Filing.{HoldCells, has_cell}
use Rattle.clr_grid.proofs.FilingLemmas.{Keeps}
use Rattle.clr_grid.proofs.side_index.file_at_each.Given as goal

-- what was filed stays, nothing more is filed than the cell at the spots, and it is at those so far
abbrev pub invariant-loop-spot : goal.invariant-loop-spot
invariant-loop-spot l = record {
  kept : Keeps (get nat_eq l.fn.by_spot) (get nat_eq l.by_spot);
  only : (x : ℕ) (q : CellId) → has_cell (get nat_eq l.by_spot x) q ≡ true → (has_cell (get nat_eq l.fn.by_spot x) q ≡ true)
      ⊎ ((q ≡ l.cell) × (list_any (has_number x) l.spots ≡ true));
  lean : HoldCells l.fn.by_spot → HoldCells l.by_spot;
  filed : (x : ℕ) → list_any (has_number x) (take l.spot-index l.spots) ≡ true → has_cell (get nat_eq l.by_spot x) l.cell ≡ true;
}
