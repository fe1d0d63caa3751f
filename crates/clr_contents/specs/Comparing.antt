-- What changes from one content to another at some cells.
use Rattle.std.specs.Prelude.{List, [], ◌∷◌}
use Rattle.clr_rows.specs.declared.cells.CellId.{CellId}
use Rattle.clr_rows.specs.Contents.{Content, Changes, row_at}
use Rattle.clr_change.specs.ChangeSets.{set_change}

-- changes with those of some cells set to what two contents differ in there, one after another
unfoldable pub set_at : Content → Content → Changes → List CellId → Changes
set_at before after changed [] = changed
set_at before after changed (cell ∷ cells) = set_at before after (set_change changed cell (row_at before cell) (row_at after cell)) cells
