-- Rows whose layer is read back as the same rows.
use Rattle.std.specs.Prelude.{◌≡◌, ℕ, List, Bool, true, Some, None, Ok, slice_get}
use Rattle.std.specs.List.{All}
use Rattle.clr_rows.specs.declared.tables.TableDef.{TableDef}
use Rattle.clr_rows.specs.Schemas.{row_fault, schema_fault}
use Rattle.clr_records.specs.Values.{IsText}
use Rattle.clr_layer_text.specs.declared.rows.LayerRow.{LayerRow}
use Rattle.clr_layer_text.specs.Layers.{can_be_layer, cell_of, layer_in_text, layer_text}

-- a row whose texts are in UTF-8
abbrev pub HasTexts : LayerRow → Type 0
HasTexts r = All IsText r.row.values

-- a row that fits the table of a number, each of its texts in UTF-8
pub record IsLayerRow (tables : List TableDef) (at : ℕ) (r : LayerRow) : Type 0 where
  pub fits : row_fault tables (cell_of at r.key) r.row ≡ None
  pub texts : HasTexts r

-- rows of a table of a schema, in which no column is called as the field of shapes
pub record IsLayer (tables : List TableDef) (at : ℕ) (table : TableDef) (rows : List LayerRow) : Type 0 where
  pub sound : schema_fault tables ≡ None
  pub stands : slice_get tables at ≡ Some table
  pub names : can_be_layer table ≡ true
  pub each : All (IsLayerRow tables at) rows

-- the text of a layer is read as the rows that were written, rounded or not
abbrev pub ReadBackLaw : Type 0
ReadBackLaw = (tables : List TableDef) (at : ℕ) (table : TableDef) (rows : List LayerRow) (rounded : Bool)
    → IsLayer tables at table rows → layer_in_text tables at rounded (layer_text table rows) ≡ Ok rows
