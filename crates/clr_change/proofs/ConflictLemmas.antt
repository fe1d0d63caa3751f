-- The least cell in conflict and the count, found one after another.
use Rattle.std.proofs.Common.{◌≡◌, ℕ, suc, ◌+◌, List, [], ◌∷◌, length, Option, Some, None, refl, ap, arith}
use Rattle.clr_rows.specs.declared.cells.CellId.{CellId}
use Rattle.clr_rows.specs.Contents.{least_and_count}

-- what was found, with the cells that follow it
abbrev pub joined : Option (CellId × ℕ) → List CellId → Option (CellId × ℕ)
joined None cells = least_and_count cells
joined (Some found) cells = Some (found.0, found.1 + length cells)

abbrev pub count_of : Option (CellId × ℕ) → ℕ
count_of None = 0
count_of (Some found) = found.1
