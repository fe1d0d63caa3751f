-- Cells with names of tables, and then as JSON.
use Rattle.std.specs.Prelude.{ℕ, ℤ, true, List, [], ◌∷◌, codes, map, Option, Some, None}
use Rattle.std.specs.FinMap as finite
use Rattle.serde_json.specs.Data.{Data, boolean, string, object, member, no_members}
use Rattle.clr_rows.specs.declared.cells.CellId.{CellId}
use Rattle.clr_rows.specs.declared.places.Place.{Place}
use Rattle.clr_rows.specs.declared.places.Shape.{Shape}
use Rattle.clr_rows.specs.declared.rows.Row.{Row}
use Rattle.clr_rows.specs.declared.tables.TableDef.{TableDef}
use Rattle.clr_rows.specs.Contents.{Content}
use Rattle.clr_rows.specs.Parts.{vertices_of}
use Rattle.clr_rows.specs.Schemas.{name_of_table}
use Rattle.clr_deltas.specs.Differences.{Differences}
use Rattle.clr_office_reading.specs.declared.cells.NamedRow.{NamedRow}
use Rattle.clr_office_reading.specs.declared.named_cells.NamedCell.{NamedCell}
use Rattle.clr_office_writing.specs.Values.{list_data, number_data, value_data}

-- with names ---------------------------------------------------------------------------------

abbrev pub named_row : List TableDef → CellId × Row → NamedRow
named_row tables e = record { table = name_of_table tables e.0.table; key = e.0.key; row = e.1 }

abbrev pub named_cell : List TableDef → CellId × Option Row → NamedCell
named_cell tables e = record { table = name_of_table tables e.0.table; key = e.0.key; row = e.1 }

-- the rows of a content, ascending
abbrev pub named_rows : List TableDef → Content → List NamedRow
named_rows tables content = map (named_row tables) (finite.entries content)

-- the cells of differences, ascending
abbrev pub cells_with_names : List TableDef → Differences → List NamedCell
cells_with_names tables d = map (named_cell tables) (finite.entries d)

-- as JSON ------------------------------------------------------------------------------------

-- two numbers for each place
abbrev pub coordinates_of : List Place → List ℤ
coordinates_of [] = []
coordinates_of (p ∷ ps) = p.x ∷ p.y ∷ coordinates_of ps

abbrev pub shape_data : Shape → Data
shape_data shape = list_data number_data (coordinates_of (vertices_of shape))

abbrev pub row_data : List ℕ → ℤ → Row → Data
row_data table key row =
    object (member (codes "k") (number_data key) (member (codes "s") (shape_data row.shape) (member (codes "t") (string table)
    (member (codes "v") (list_data value_data row.values) no_members))))

abbrev pub gone_data : List ℕ → ℤ → Data
gone_data table key = object (member (codes "gone") (boolean true) (member (codes "k") (number_data key) (member (codes "t") (string table) no_members)))

abbrev pub row_or_gone_data : List ℕ → ℤ → Option Row → Data
row_or_gone_data table key None = gone_data table key
row_or_gone_data table key (Some row) = row_data table key row

abbrev pub named_row_data : NamedRow → Data
named_row_data named = row_data named.table named.key named.row

abbrev pub named_cell_data : NamedCell → Data
named_cell_data named = row_or_gone_data named.table named.key named.row

-- the rows of LIVE
abbrev pub live_data : List TableDef → Content → Data
live_data tables content = list_data named_row_data (named_rows tables content)

abbrev pub differences_data : List TableDef → Differences → Data
differences_data tables d = list_data named_cell_data (cells_with_names tables d)
