-- Faults are found exactly in layers that are refused.
use Rattle.std.specs.Prelude.{◌≡◌, ℕ, ◌==◌, Bool, true, false, List, length, Some, Result, Ok, Err, slice_get}
use Rattle.clr_rows.specs.declared.tables.TableDef.{TableDef}
use Rattle.clr_rows.specs.Contents.{Content}
use Rattle.clr_records.specs.Records.{records_in}
use Rattle.clr_layer_changes.specs.LayerRows.{layer_rows}
use Rattle.clr_layer_changes.specs.declared.faults.LayersFault.{LayersFault}
use Rattle.clr_layer_changes.specs.declared.faults.LayersFault.TheVariants.{NoKey}
use Rattle.clr_layer_changes.specs.declared.options.LayerOptions.{LayerOptions}
use Rattle.clr_layer_faults.specs.FoundFaults.{Record, faults_in}

abbrev pub is_no_key : LayersFault → Bool
is_no_key NoKey = true
is_no_key _ = false

-- nothing is wrong with a layer, but that no key may be left for a row that has none
abbrev pub is_readable : Result Content (ℕ × LayersFault) → Bool
is_readable (Ok rows) = true
is_readable (Err e) = is_no_key e.1

-- in the layer of a table no fault is found exactly where it is readable, whatever LIVE has and from whichever key on others are given
abbrev pub FaultsTellRefusals : Type 0
FaultsTellRefusals =
    (tables : List TableDef) (live : Content) (options : LayerOptions) (at : ℕ) (table : TableDef) (text : List ℕ) (records : List Record)
    → slice_get tables at ≡ Some table → records_in text ≡ Some records
    → (length (faults_in tables at table options.rounded records) == 0) ≡ is_readable (layer_rows tables live options at text)
