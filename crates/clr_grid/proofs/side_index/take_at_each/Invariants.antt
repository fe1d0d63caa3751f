use Rattle.std.proofs.Common.{nat_eq, ℕ, ◌≡◌, true, false, not, ◌&&◌, take}
use Rattle.std.specs.HashMap.{get}
use Rattle.std.specs.List.{list_any}
use Rattle.std.specs.Option.{option_copied}
use Rattle.clr_rows.specs.declared.cells.CellId.{CellId}
use Rattle.clr_grid.specs.SpotNumbers.{has_number}
use Rattle.clr_grid.specs.CellSets.{is_one}
use Rattle.clr_grid.specs.Filing.{HoldCells, has_cell, keeps_number}
use Rattle.clr_grid.proofs.FilingLemmas.{Keeps}
use Rattle.clr_grid.proofs.side_index.take_at_each.Given as goal

-- what is filed for other cells, or at spots that stay, stays; nothing more is filed; and the cell is gone from the other spots so far
abbrev pub invariant-loop-spot : goal.invariant-loop-spot
invariant-loop-spot l = record {
  kept : (x : ℕ) (q : CellId) → (is_one l.cell q && not (keeps_number (option_copied l.kept) x)) ≡ false → has_cell (get nat_eq l.fn.by_spot x) q ≡ true →
      has_cell (get nat_eq l.by_spot x) q ≡ true;
  fewer : Keeps (get nat_eq l.by_spot) (get nat_eq l.fn.by_spot);
  gone : (x : ℕ) → list_any (has_number x) (take l.spot-index l.spots) ≡ true → has_cell (get nat_eq l.by_spot x) l.cell ≡ true →
      keeps_number (option_copied l.kept) x ≡ true;
  lean : HoldCells l.fn.by_spot → HoldCells l.by_spot;
}
