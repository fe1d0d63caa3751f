-- What the designs of an office text change, in SQL.
use Rattle.std.specs.Prelude.{ℕ, List, [], ◌++◌, codes, Option, Some, None, slice_get}
use Rattle.std.specs.Fmt.{signed_decimal}
use Rattle.std.specs.FinMap as finite
use Rattle.std.specs.List.{flat_map}
use Rattle.clr_rows.specs.declared.cells.CellId.{CellId}
use Rattle.clr_rows.specs.declared.rows.Row.{Row}
use Rattle.clr_rows.specs.declared.tables.TableDef.{TableDef}
use Rattle.clr_deltas.specs.Deltas.{Delta}
use Rattle.clr_sql.specs.declared.targets.Target.{Target}
use Rattle.clr_sql.specs.Conditions.{key_condition}
use Rattle.clr_sql.specs.Quoting.{quoted_name}
use Rattle.clr_guarded_edits.specs.SqlTexts.{given_shape, with_comma}
use Rattle.clr_cut_proposals.specs.Searches.{except_found, into_found, new_table}

-- the row at a cell that a design lists is found, if there is one
unfoldable pub cell_in : CellId → TableDef → List ℕ
cell_in cell table =
    into_found table.name ++ codes "\"KEY\" FROM " ++ quoted_name table.name ++ codes " WHERE " ++ key_condition cell.key ++ except_found table.name

abbrev pub cell_text_of : CellId → Option TableDef → List ℕ
cell_text_of cell None = []
cell_text_of cell (Some table) = cell_in cell table

-- a row that a design brings
unfoldable pub new_row_in : Target → CellId → TableDef → Row → List ℕ
new_row_in target cell table row =
    codes "INSERT INTO " ++ quoted_name (new_table table.name) ++ codes " VALUES (" ++ signed_decimal cell.key ++ flat_map with_comma row.values
    ++ given_shape target row.shape ++ codes ");\n"

abbrev pub new_row_text : Target → CellId → Option Row → Option TableDef → List ℕ
new_row_text target cell (Some row) (Some table) = new_row_in target cell table row
new_row_text target cell _ _ = []

abbrev pub listed_text : List TableDef → CellId → List ℕ
listed_text tables cell = cell_text_of cell (slice_get tables cell.table)

abbrev pub brought_text : Target → List TableDef → CellId × Option Row → List ℕ
brought_text target tables e = listed_text tables e.0 ++ new_row_text target e.0 e.1 (slice_get tables e.0.table)

-- the cells of a design's base, and those of its rows with what it brings
abbrev pub design_text : Target → List TableDef → Delta → List ℕ
design_text target tables design =
    flat_map (λ e. listed_text tables e.0) (finite.entries design.base) ++ flat_map (brought_text target tables) (finite.entries design.current)
