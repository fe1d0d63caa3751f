-- Cells in words.
use Rattle.std.specs.Prelude.{ℕ, List, ◌++◌, codes}
use Rattle.std.specs.Fmt.{signed_decimal}
use Rattle.clr_rows.specs.declared.cells.CellId.{CellId}
use Rattle.clr_rows.specs.declared.tables.TableDef.{TableDef}
use Rattle.clr_rows.specs.Schemas.{name_of_table}

-- a cell is told as `main 20`
abbrev pub cell_label : List TableDef → CellId → List ℕ
cell_label tables q = name_of_table tables q.table ++ codes " " ++ signed_decimal q.key
