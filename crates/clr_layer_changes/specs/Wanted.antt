-- The content that layers ask for.
use Rattle.std.specs.Prelude.{◌≡◌, ℕ, ◌==◌, ◌++◌, Bool, List, map, filter, take, Result, Ok, Err, if◌then◌else◌}
use Rattle.std.specs.FinMap as finite
use Rattle.std.specs.List.{list_any}
use Rattle.std.specs.Str.{bytes_eq}
use Rattle.clr_rows.specs.declared.cells.CellId.{CellId}
use Rattle.clr_rows.specs.declared.rows.Row.{Row}
use Rattle.clr_rows.specs.declared.tables.TableDef.{TableDef}
use Rattle.clr_rows.specs.Contents.{Content, over}
use Rattle.clr_rows.specs.Schemas.{table_named}
use Rattle.clr_rows.specs.Sheets.{with_none, with_rows}
use Rattle.clr_readings.specs.Readings.{◌>>=◌, or_fault}
use Rattle.clr_layer_changes.specs.declared.faults.FaultyLayer.{FaultyLayer}
use Rattle.clr_layer_changes.specs.declared.faults.LayersFault.{LayersFault}
use Rattle.clr_layer_changes.specs.declared.faults.LayersFault.TheVariants.{NoTable, TableTwice}
use Rattle.clr_layer_changes.specs.declared.options.GivenLayer.{GivenLayer}
use Rattle.clr_layer_changes.specs.declared.options.LayerOptions.{LayerOptions}
use Rattle.clr_layer_changes.specs.LayerRows.{layer_rows}
use Rattle.clr_layer_changes.specs.Turns.{after_each}

abbrev pub is_in : ℕ → CellId × Row → Bool
is_in table e = e.0.table == table

-- the cells of a table's rows
abbrev pub table_cells_in : Content → ℕ → List CellId
table_cells_in content table = map (λ e. e.0) (filter (is_in table) (finite.entries content))

-- a content in which a table's rows go, and others stand
unfoldable pub replaced : Content → ℕ → Content → Content
replaced content table rows = over content (with_none (table_cells_in content table) ++ with_rows (finite.entries rows))

-- whether a layer is of the table of this name
abbrev pub is_layer_of_table : List ℕ → GivenLayer → Bool
is_layer_of_table name layer = bytes_eq layer.table name

-- the number of a layer's table, which no layer before it names; a fault of the whole layer stands beside 0
abbrev pub table_of : List TableDef → List GivenLayer → GivenLayer → Result ℕ (ℕ × LayersFault)
table_of schema earlier layer =
    if list_any (is_layer_of_table layer.table) earlier then Err (0, TableTwice) else or_fault (0, NoTable) (table_named schema layer.table)

-- a content with the rows of one more layer in place of its table's
unfoldable pub with_layer : List TableDef → Content → LayerOptions → List GivenLayer → Content → GivenLayer → Result Content (ℕ × LayersFault)
with_layer schema live options earlier content layer = do
  table ← table_of schema earlier layer
  rows ← layer_rows schema live options table layer.text.items
  Ok (replaced content table rows)

-- one content stands where another is to stand, or there is the fault in place of it
abbrev pub Replaces : Result Content (ℕ × LayersFault) → Content → Result Unit (ℕ × LayersFault) → Type 0
Replaces read new (Ok _) = read ≡ Ok new
Replaces read new (Err e) = read ≡ Err e

-- a fault with the position of its layer
abbrev pub at_layer : {A : Type 0} → ℕ → Result A (ℕ × LayersFault) → Result A FaultyLayer
at_layer n (Ok x) = Ok x
at_layer n (Err e) = Err (record { layer = n; number = e.0; fault = e.1 })

-- a content with the rows of the layer at a position in place of its table's; or the fault of this layer
abbrev pub with_layer_at : List TableDef → Content → LayerOptions → List GivenLayer → ℕ → Content → GivenLayer → Result Content FaultyLayer
with_layer_at schema live options layers n content layer = at_layer n (with_layer schema live options (take n layers) content layer)

-- a content, in which each table of a layer has the rows of this layer; or the first fault. A row without a key gets none at which another content has
-- a row
unfoldable pub wanted_over : List TableDef → Content → Content → LayerOptions → List GivenLayer → Result Content FaultyLayer
wanted_over schema base taken options layers = after_each (with_layer_at schema taken options layers) 0 base layers

-- LIVE's content, in which each table of a layer has the rows of this layer; or the first fault
abbrev pub wanted : List TableDef → Content → LayerOptions → List GivenLayer → Result Content FaultyLayer
wanted schema live options layers = wanted_over schema live live options layers

-- the rows of two contents; where both have one at a cell, that of the second
abbrev pub united : Content → Content → Content
united one other = over one (with_rows (finite.entries other))
