-- Layers of LIVE, as they are printed, given back for a design or for LIVE: nothing changes.
use Rattle.std.specs.Prelude.{◌≡◌, Bool, List, []}
use Rattle.std.specs.List.{All}
use Rattle.clr_rows.specs.Names.{live_name}
use Rattle.clr_workspaces.specs.Marks.{Name}
use Rattle.clr_steps.specs.Offices.{Office}
use Rattle.clr_layer_changes.specs.Changes.{edits_between}
use Rattle.clr_layer_changes.specs.ReadBack.{AreOfOtherTables}
use Rattle.clr_layer_changes.specs.declared.options.GivenLayer.{GivenLayer}
use Rattle.clr_layer_changes.specs.declared.options.LayerOptions.{LayerOptions}
use Rattle.clr_desk_layers.specs.Designs.{IsDesignPrint, IsDesignScriptPrint, IsOfficePrint, IsPrintOfDesign, IsPrintOfLive, IsPrintOfScript, text_print}
use Rattle.clr_desk_layers.specs.Counted.{IsCounted}
use Rattle.clr_desk_layers.specs.Layers.{IsLayerPrint}
use Rattle.clr_desk_layers.specs.Since.{IsSincePrint}
use Rattle.clr_desk_prints.specs.Printing.{PrintoutOrFault}

-- a layer with the text that is printed of its table in LIVE
abbrev pub IsPrintedOfLive : Office → GivenLayer → Type 0
IsPrintedOfLive o layer = IsLayerPrint layer.table live_name o (text_print layer.text.items)

-- what is printed of layers is what LIVE's own content asks for: of a design that sees what LIVE has, and that no edit makes; or of LIVE as it is
pub record ChangeNothing (name : Name) (options : LayerOptions) (may_remove : Bool) (layers : List GivenLayer) (o : Office) : Type 0 where
  pub design : (print : PrintoutOrFault) → IsDesignPrint name options may_remove layers o print
      → IsCounted may_remove o.live (IsPrintOfDesign name o.live) o o.live print
  pub script : (print : PrintoutOrFault) → IsDesignScriptPrint name options may_remove layers o print
      → IsCounted may_remove o.live (IsPrintOfScript name) o o.live print
  pub office : (print : PrintoutOrFault) → IsOfficePrint options layers o print → IsPrintOfLive o o.live print
  pub no_edit : edits_between o.live o.live ≡ []

-- layers that are printed of LIVE, each of another table, change nothing when they are given back
abbrev pub PrintedLayersLaw : Type 0
PrintedLayersLaw = (o : Office) (name : Name) (options : LayerOptions) (may_remove : Bool) (layers : List GivenLayer)
    → All (IsPrintedOfLive o) layers
    → AreOfOtherTables layers
    → ChangeNothing name options may_remove layers o

-- layers that were copied from the office itself are those of LIVE as it is
abbrev pub SameBaseLaw : Type 0
SameBaseLaw = (o : Office) (name : Name) (options : LayerOptions) (may_remove : Bool) (layers : List GivenLayer) (print : PrintoutOrFault)
    → IsSincePrint name options may_remove layers o o print → IsDesignPrint name options may_remove layers o print
