-- What the changes that a change set lists by cell mean, and changes in which that of one cell is set.
use Rattle.std.specs.Prelude.{◌≡◌, T, false, not, List, Option, Some, None, is_some, if◌then◌else◌}
use Rattle.std.specs.FinMap as finite
use Rattle.clr_rows.specs.declared.cells.CellId.{CellId}
use Rattle.clr_rows.specs.declared.cells.Change.{Change}
use Rattle.clr_rows.specs.declared.rows.Row.{Row}
use Rattle.clr_rows.specs.Cells.{cell_cmp}
use Rattle.clr_rows.specs.Contents.{Content, Changes, row_at}
use Rattle.clr_rows.specs.Same.{same}

abbrev pub changes_of : List (CellId × Change) → Changes
changes_of pairs = finite.from_sorted pairs

-- each change has two rows that differ
abbrev pub AreDifferent : Changes → Type 0
AreDifferent changed = (cell : CellId) (change : Change) → finite.get changed cell ≡ Some change → same change.before change.after ≡ false

-- changes in the order of cells, each with two rows that differ
pub record IsSoundChangeSet (pairs : List (CellId × Change)) : Type 0 where
  pub ascending : T (finite.is_sorted cell_cmp pairs)
  pub differ : AreDifferent (changes_of pairs)

-- the change from one row, or none, to another, if they differ
abbrev pub change_from : Option Row → Option Row → Option Change
change_from before after =
    let change : Change = record { before = before; after = after } in
    if not (same before after) then Some change else None

-- changes with that of a cell set to the change from one row, or none, to another
abbrev pub set_change : Changes → CellId → Option Row → Option Row → Changes
set_change changed cell before after =
    let change : Change = record { before = before; after = after } in
    if same before after then finite.remove changed cell else finite.insert changed cell change

-- changes with those of all cells of a content set to what two contents differ in
abbrev pub AreNoted : Content → Content → Content → Changes → Changes → Type 0
AreNoted base current cells old new = (cell : CellId)
    → finite.get new cell ≡ (if is_some (row_at cells cell) then change_from (row_at base cell) (row_at current cell) else finite.get old cell)
