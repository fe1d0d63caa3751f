-- The edits that lead from one content to another.
use Rattle.std.specs.Prelude.{List, Option, Some, None, map}
use Rattle.std.specs.FinMap as finite
use Rattle.clr_rows.specs.declared.cells.CellId.{CellId}
use Rattle.clr_rows.specs.declared.cells.Change.{Change}
use Rattle.clr_rows.specs.declared.rows.Row.{Row}
use Rattle.clr_rows.specs.Contents.{Content, changes}
use Rattle.clr_change.specs.declared.edits.Edit.{Edit}
use Rattle.clr_change.specs.declared.edits.Edit.TheVariants.{Insert, Update, Delete}

-- the edit that makes a change at a cell
abbrev pub edit_to : CellId → Option Row → Option Row → Edit
edit_to cell before None = Delete cell
edit_to cell None (Some row) = Insert cell row
edit_to cell (Some old) (Some row) = Update cell row

abbrev pub edit_of : CellId × Change → Edit
edit_of e = edit_to e.0 e.1.before e.1.after

-- an edit for each cell at which two contents differ, in the order of cells
abbrev pub edits_between : Content → Content → List Edit
edits_between base current = map edit_of (finite.entries (changes base current))
