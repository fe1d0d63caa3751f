-- What is found cell by cell.
use Rattle.std.specs.Prelude.{◌≡◌, ℕ, true, List}
use Rattle.clr_rows.specs.declared.cells.CellId.{CellId}
use Rattle.clr_finders.specs.declared.row_spots.RuleSpots.{RuleSpots}
use Rattle.clr_grid.specs.declared.rule_index.RuleIndex.{RuleIndex}
use Rattle.clr_grid.specs.Filing.{Key, is_filed_under, is_looked_at}

-- a cell that is filed among the rows that may serve, where cells are found for the row
abbrev pub IsServerFoundFor : List RuleIndex → ℕ → RuleSpots → CellId → Type 0
IsServerFoundFor indexes number x q = (k : Key) × (is_looked_at x k ≡ true) × (is_filed_under indexes number true k q ≡ true)
