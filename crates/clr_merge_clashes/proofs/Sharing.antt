-- The least cell of two change sets, among the changes that are left.
use Rattle.std.specs.Prelude.{List, Option, find, map}
use Rattle.clr_rows.specs.declared.cells.CellId.{CellId}
use Rattle.clr_rows.specs.declared.cells.Change.{Change}
use Rattle.clr_rows.specs.Contents.{Changes}
use Rattle.clr_merge_clashes.specs.SharedCells.{is_changed_in}

-- the least cell of some changes that another change set has too
abbrev pub shared_with : Changes → List (CellId × Change) → Option CellId
shared_with second left = find (is_changed_in second) (map (λ e. e.0) left)
