-- A transaction over tables that takes them from one content to another where the rows of the first are still there as they were.
use Rattle.std.specs.Prelude.{List, [], ◌∷◌, ◌++◌, map, Option, Some, None}
use Rattle.std.specs.FinMap as finite
use Rattle.std.specs.List.{flat_map}
use Rattle.clr_rows.specs.declared.cells.CellId.{CellId}
use Rattle.clr_rows.specs.declared.cells.Change.{Change}
use Rattle.clr_rows.specs.declared.rows.Row.{Row}
use Rattle.clr_rows.specs.declared.tables.TableDef.{TableDef}
use Rattle.clr_rows.specs.Contents.{Changes, Content, changes}

-- a pass over the rows of a table prints none that the cut lacks, and finds none otherwise; just this row, or none, stands at a cell; or an edit is made, which
-- has an effect only where the row before it stands at its cell
pub data Statement : Type 0 where
  Pass : TableDef → Statement
  Demand : CellId → Option Row → Statement
  Make : CellId → Change → Statement

-- a pass over each table
abbrev pub passes_over : List TableDef → List Statement
passes_over tables = map Pass tables

-- each row of a content is there as it was
abbrev pub rows_demanded : Content → List Statement
rows_demanded content = map (λ e. Demand e.0 (Some e.1)) (finite.entries content)

-- no row is at a cell where one is put
abbrev pub if_free : CellId → (before : Option Row) → List Statement
if_free cell None = Demand cell None ∷ []
if_free cell (Some row) = []

abbrev pub free_cells_demanded : Changes → List Statement
free_cells_demanded changed = flat_map (λ e. if_free e.0 e.1.before) (finite.entries changed)

-- an edit for each changed cell, guarded by the row before
abbrev pub guarded_edits : Changes → List Statement
guarded_edits changed = map (λ e. Make e.0 e.1) (finite.entries changed)

-- at each changed cell stands the row after
abbrev pub rows_after_demanded : Changes → List Statement
rows_after_demanded changed = map (λ e. Demand e.0 e.1.after) (finite.entries changed)

-- all of these, one after another: first what must hold, then the edits, and then whether they had their effect
unfoldable pub statements_between : List TableDef → (old new : Content) → List Statement
statements_between tables old new =
    passes_over tables ++ rows_demanded old ++ free_cells_demanded (changes old new) ++ guarded_edits (changes old new) ++ rows_after_demanded (changes old new)
