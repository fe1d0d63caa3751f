-- The rows of a table in a content, and their layer.
use Rattle.std.specs.Prelude.{◌≡◌, ℕ, ◌==◌, List, [], ◌∷◌, Bool, false, Option, Some, None, Ok, IfSome, slice_get, if◌then◌else◌}
use Rattle.std.specs.FinMap as finite
use Rattle.clr_rows.specs.Contents.{Content}
use Rattle.clr_rows.specs.declared.cells.CellId.{CellId}
use Rattle.clr_rows.specs.declared.rows.Row.{Row}
use Rattle.clr_rows.specs.declared.tables.TableDef.{TableDef}
use Rattle.clr_layer_text.specs.declared.rows.LayerRow.{LayerRow}
use Rattle.clr_layer_text.specs.Layers.{can_be_layer, layer_in_text, layer_text}

-- of some rows at cells, those that stand in a table, each with its key
abbrev pub rows_among : ℕ → List (CellId × Row) → List LayerRow
rows_among table [] = []
rows_among table (e ∷ es) = if e.0.table == table then record { key = Some e.0.key; row = e.1 } ∷ rows_among table es else rows_among table es

-- the rows of a table, in the order of their keys
abbrev pub rows_of_table : Content → ℕ → List LayerRow
rows_of_table content table = rows_among table (finite.entries content)

-- the text is the layer of these rows of a table, and is read as these rows, rounded or not
pub record IsLayerText (tables : List TableDef) (at : ℕ) (table : TableDef) (rows : List LayerRow) (text : List ℕ) : Type 0 where
  pub stands : slice_get tables at ≡ Some table
  pub bytes : text ≡ layer_text table rows
  pub again : (rounded : Bool) → layer_in_text tables at rounded text ≡ Ok rows

-- a table's rows have a layer, unless a column is called as the field of shapes
abbrev pub IsTableLayer : List TableDef → ℕ → Content → Option (List ℕ) → Type 0
IsTableLayer tables at content None = IfSome (slice_get tables at) (λ table. can_be_layer table ≡ false)
IsTableLayer tables at content (Some text) = (table : TableDef) × IsLayerText tables at table (rows_of_table content at) text
