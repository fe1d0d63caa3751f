-- What a set of cells gains until there is no memory.
use Rattle.std.specs.Prelude.{◌≡◌, ◌⊎◌, true}
use Rattle.std.specs.FinSet as set
use Rattle.clr_rows.specs.declared.cells.CellId.{CellId}
use Rattle.clr_grid.specs.CellSets.{Cells}
use Rattle.clr_grid.specs.Filing.{Key, is_filed, is_looked_at}
use Rattle.clr_finders.specs.declared.row_spots.RuleSpots.{RuleSpots}
use Rattle.clr_grid.specs.declared.side_index.SideIndex.{SideIndex}

-- the later set has the cells of the earlier one, and besides them allowed ones alone
pub record GainsCells (allowed : CellId → Type 0) (old new : Cells) : Type 0 where
  pub kept : (q : CellId) → set.contains old q ≡ true → set.contains new q ≡ true
  pub only : (q : CellId) → set.contains new q ≡ true → (set.contains old q ≡ true) ⊎ allowed q

-- a cell that is filed where cells are found for the row
abbrev pub IsFoundFor : SideIndex → RuleSpots → CellId → Type 0
IsFoundFor index x q = (k : Key) × (is_looked_at x k ≡ true) × (is_filed index k q ≡ true)
