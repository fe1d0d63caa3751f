-- The line of the first layer that can't be read.
use Rattle.std.specs.Prelude.{ℕ, List, [], slice_get}
use Rattle.std.specs.Option.{option_map_or}
use Rattle.clr_layer_changes.specs.declared.faults.FaultyLayer.{FaultyLayer}
use Rattle.clr_layer_changes.specs.declared.options.GivenLayer.{GivenLayer}
use Rattle.clr_layer_faults.specs.LayerFaultLines.{table_fault_line}

-- the table of the layer at a position, as it is named with the layer
abbrev pub table_at : List GivenLayer → ℕ → List ℕ
table_at layers at = option_map_or (λ layer. layer.table) (slice_get layers at) []

-- the line of the first layer with a fault
abbrev pub fault_line : List GivenLayer → FaultyLayer → List ℕ
fault_line layers faulty = table_fault_line (table_at layers faulty.layer) faulty.fault faulty.number
