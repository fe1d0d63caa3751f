-- The lines of rows, each a CSV record.
use Rattle.std.specs.Prelude.{◌≡◌, ℕ, List, [], ◌∷◌, ◌++◌, length, map, codes, false, true}
use Rattle.std.specs.Fmt.{decimal, signed_decimal}
use Rattle.std.specs.List.{flat_map}
use Rattle.std.specs.FinMap as finite
use Rattle.csv.specs.Writing.{default_writer, fields_written, has_written, row_text, with_flexible, writer_setup}
use Rattle.csv.specs.declared.writer.Writer.{Writer}
use Rattle.csv.specs.declared.writer.WriterBuilder.{WriterBuilder}
use Rattle.clr_rows.specs.declared.cells.CellId.{CellId}
use Rattle.clr_rows.specs.declared.places.Place.{Place}
use Rattle.clr_rows.specs.declared.places.Shape.{Shape}
use Rattle.clr_rows.specs.declared.places.Shape.TheVariants.{Bare, At, Line, Chain}
use Rattle.clr_rows.specs.declared.rows.Row.{Row}
use Rattle.clr_rows.specs.declared.tables.TableDef.{TableDef}
use Rattle.clr_rows.specs.Contents.{Content, cells_of}
use Rattle.clr_rows.specs.Schemas.{name_of_table}
use Rattle.clr_records.specs.Values.{value_field}

abbrev pub place_fields : Place → List (List ℕ)
place_fields p = signed_decimal p.x ∷ signed_decimal p.y ∷ []

abbrev pub shape_fields : Shape → List (List ℕ)
shape_fields Bare = []
shape_fields (At p) = place_fields p
shape_fields (Line p q) = place_fields p ++ place_fields q
shape_fields (Chain vertices) = flat_map place_fields vertices

-- a cell: its table and its key
abbrev pub cell_fields : List TableDef → CellId → List (List ℕ)
cell_fields tables cell = name_of_table tables cell.table ∷ signed_decimal cell.key ∷ []

-- a row's record: its table, its key, its values and its coordinates
abbrev pub row_fields : List TableDef → CellId → Row → List (List ℕ)
row_fields tables cell row = name_of_table tables cell.table ∷ signed_decimal cell.key ∷ (map value_field row.values ++ shape_fields row.shape)

-- how rows are written: as csv does by itself, but with any number of fields in each
abbrev pub rows_writer : WriterBuilder
rows_writer = with_flexible default_writer true

-- a writer of rows that has ended its last record
pub record IsBetweenRows {W : Type 0} (writer : Writer W) : Type 0 where
  pub ended : fields_written writer ≡ 0
  pub clean : has_written writer ≡ false
  pub setup : writer_setup writer ≡ rows_writer

-- a row's line, in CSV
abbrev pub row_line : List TableDef → CellId × Row → List ℕ
row_line tables e = row_text rows_writer (row_fields tables e.0 e.1)

-- the lines of a content: how many rows it has, and then each of them, ascending
unfoldable pub rows_text : List TableDef → Content → List ℕ
rows_text tables content = codes "rows " ++ decimal (length (cells_of content)) ++ codes "\n" ++ flat_map (row_line tables) (finite.entries content)
