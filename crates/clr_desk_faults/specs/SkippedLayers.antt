-- The layer whose records with faults are skipped.
use Rattle.std.specs.Prelude.{◌≡◌, Option, None, Result, Ok, Err}
use Rattle.clr_steps.specs.Offices.{Office}
use Rattle.clr_rule_text.specs.declared.faults.TextFault.{TextFault}
use Rattle.clr_layer_changes.specs.declared.options.GivenLayer.{GivenLayer}
use Rattle.clr_skipped_records.specs.Splits.{IsSplitLayer}
use Rattle.clr_skipped_records.specs.declared.splits.SplitLayer.{SplitLayer}
use Rattle.clr_desk_command_line.specs.declared.asks.DeskAsk.{DeskAsk}
use Rattle.clr_desk_faults.specs.LayerFaults.{is_rounded}

-- a layer over the tables of an office, split into the records that have no fault and the others; nothing where the text is no office
abbrev pub IsSplitOver : DeskAsk → GivenLayer → Option SplitLayer → Result Office TextFault → Type 0
IsSplitOver asked layer split (Ok o) = IsSplitLayer o.schema (is_rounded asked) layer split
IsSplitOver asked layer split (Err e) = split ≡ None
