-- Searches for cells behind a given one, in the order of cells.
use Rattle.std.specs.Prelude.{◌≡◌, false, if◌then◌else◌, Option, Some, None, ⊤, IfSome}
use Rattle.std.specs.Ordering.{is_gt, is_lt}
use Rattle.std.specs.declared.cmp.Ordering.TheVariants.{Less}
use Rattle.clr_rows.specs.declared.cells.CellId.{CellId}
use Rattle.clr_rows.specs.Cells.{cell_cmp}

-- the cell stands behind a given one, if one is given
abbrev pub IsBehind : Option CellId → CellId → Type 0
IsBehind None q = ⊤
IsBehind (Some p) q = cell_cmp p q ≡ Less

-- a search that stopped at a cell, or went past all, didn't go past this one
abbrev pub IsReached : Option CellId → CellId → Type 0
IsReached None q = ⊥
IsReached (Some p) q = is_gt (cell_cmp p q) ≡ false

-- a cell behind a given one, which is past none of those behind it of which P holds; or none, where P holds of none of them
pub record IsNextOf (P : CellId → Type 0) (after next : Option CellId) : Type 0 where
  pub behind : IfSome next (IsBehind after)
  pub reached : (q : CellId) → P q → IsBehind after q → IsReached next q

-- the lesser of two cells, or the one that there is
abbrev pub lesser_cell : Option CellId → Option CellId → Option CellId
lesser_cell None other = other
lesser_cell (Some p) None = Some p
lesser_cell (Some p) (Some q) = if is_lt (cell_cmp q p) then Some q else Some p
