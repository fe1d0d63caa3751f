-- Rows that are put into a cut.
use Rattle.std.specs.Prelude.{Bool, List, Result}
use Rattle.clr_rows.specs.declared.tables.TableDef.{TableDef}
use Rattle.clr_rows.specs.Contents.{Content, no_rows}
use Rattle.clr_layer_changes.specs.declared.faults.FaultyLayer.{FaultyLayer}
use Rattle.clr_layer_changes.specs.declared.options.GivenLayer.{GivenLayer}
use Rattle.clr_layer_changes.specs.declared.options.LayerOptions.{LayerOptions}
use Rattle.clr_layer_changes.specs.Wanted.{united, wanted_over}
use Rattle.clr_office_reading.specs.Offices.{OfficeText}
use Rattle.clr_cut_texts.specs.declared.rows.TheConstants.{NO_KEY}

-- rows must have keys of their own: none is left from this one on
abbrev pub keyed : Bool → LayerOptions
keyed rounded = record { first_key = NO_KEY; rounded = rounded }

-- the rows of layers alone; or the first fault, which may be that a row has no key
abbrev pub rows_of_layers : List TableDef → Bool → List GivenLayer → Result Content FaultyLayer
rows_of_layers tables rounded layers = wanted_over tables no_rows no_rows (keyed rounded) layers

-- an office text with rows put into LIVE: a row stands in place of the one that was at its cell, and no row goes. Its workspaces list the cells that they did
abbrev pub with_rows_put : OfficeText → Content → OfficeText
with_rows_put o rows = record o { live = united o.live rows }
