-- Layers of LIVE that are given back: nothing changes.
use Rattle.std.specs.Prelude.{◌≡◌, ◌≢◌, ℕ, List, [], Some, Ok}
use Rattle.std.specs.List.{All, AllPairs}
use Rattle.clr_rows.specs.declared.tables.TableDef.{TableDef}
use Rattle.clr_rows.specs.Contents.{Content}
use Rattle.clr_rows.specs.Schemas.{table_named}
use Rattle.clr_layer_text.specs.TableRows.{IsTableLayer}
use Rattle.clr_layer_changes.specs.Changes.{edits_between}
use Rattle.clr_layer_changes.specs.Wanted.{wanted}
use Rattle.clr_layer_changes.specs.declared.options.GivenLayer.{GivenLayer}
use Rattle.clr_layer_changes.specs.declared.options.LayerOptions.{LayerOptions}

-- the layer of the rows that a content has in a table, given under the table's name
abbrev pub IsLayerOf : List TableDef → Content → GivenLayer → Type 0
IsLayerOf tables content layer = (at : ℕ) × (table_named tables layer.table ≡ Some at) × IsTableLayer tables at content (Some layer.text.items)

-- no table has two layers
abbrev pub AreOfOtherTables : List GivenLayer → Type 0
AreOfOtherTables layers = AllPairs (λ one other. one.table ≢ other.table) layers

-- layers of LIVE, each of another table, ask for LIVE's own content, and no edit leads to it
abbrev pub LayersOfLiveLaw : Type 0
LayersOfLiveLaw = (tables : List TableDef) (live : Content) (options : LayerOptions) (layers : List GivenLayer)
    → All (IsLayerOf tables live) layers
    → AreOfOtherTables layers
    → (wanted tables live options layers ≡ Ok live) × (edits_between live live ≡ [])
