-- Edits as CSV: each as a script has it behind `apply`, and before it the row as it was.
use Rattle.std.specs.Prelude.{ℕ, List, [], ◌∷◌, ◌++◌, codes, Option, Some, None}
use Rattle.std.specs.FinMap as finite
use Rattle.std.specs.List.{flat_map}
use Rattle.csv.specs.Writing.{row_text}
use Rattle.clr_rows.specs.declared.cells.CellId.{CellId}
use Rattle.clr_rows.specs.declared.cells.Change.{Change}
use Rattle.clr_rows.specs.declared.rows.Row.{Row}
use Rattle.clr_rows.specs.declared.tables.TableDef.{TableDef}
use Rattle.clr_rows.specs.Contents.{Content, changes}
use Rattle.clr_lines.specs.Rows.{cell_fields, row_fields, rows_writer}

-- the row as it was, if there was one
abbrev pub was_records : List TableDef → CellId → Option Row → List (List (List ℕ))
was_records tables cell None = []
was_records tables cell (Some old) = (codes "was" ∷ row_fields tables cell old) ∷ []

-- the edit that leads from one row, or none, to another, or none
abbrev pub edit_fields : List TableDef → CellId → Option Row → Option Row → List (List ℕ)
edit_fields tables cell before None = codes "delete" ∷ cell_fields tables cell
edit_fields tables cell None (Some row) = codes "insert" ∷ row_fields tables cell row
edit_fields tables cell (Some old) (Some row) = codes "update" ∷ row_fields tables cell row

abbrev pub change_records : List TableDef → CellId × Change → List (List (List ℕ))
change_records tables e = was_records tables e.0 e.1.before ++ edit_fields tables e.0 e.1.before e.1.after ∷ []

abbrev pub change_lines : List TableDef → CellId × Change → List ℕ
change_lines tables e = flat_map (row_text rows_writer) (change_records tables e)

-- the edits that take one content to another, in the order of cells
abbrev pub records_text : List TableDef → (old new : Content) → List ℕ
records_text tables old new = flat_map (change_lines tables) (finite.entries (changes old new))
