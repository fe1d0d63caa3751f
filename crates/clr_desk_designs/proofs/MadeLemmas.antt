-- A design of layers, told of the content that its layers ask for.
use Rattle.std.proofs.Common.{◌≡◌, Bool, Ok}
use Rattle.clr_rows.specs.Contents.{Content}
use Rattle.clr_steps.specs.Offices.{Office}
use Rattle.clr_layer_changes.specs.Wanted.{wanted_over}
use Rattle.clr_layer_changes.specs.declared.options.LayerOptions.{LayerOptions}
use Rattle.clr_desk_designs.specs.InTurn.{of_removed, of_reply}
use Rattle.clr_desk_designs.specs.Made.{IsContentMade, IsDesignMade, by_removal, by_reply}
use Rattle.clr_design_folders.specs.declared.layered_designs.LayeredDesign.{LayeredDesign}
use Rattle.clr_desk_designs.specs.declared.made_designs.MadeDesigns.{MadeDesigns}
use Rattle.clr_desk_designs.specs.declared.made_designs.MadeDesigns.TheVariants.{Made, Refused}

pub content_made : (taken : Content) (options : LayerOptions) (may_remove : Bool) (o : Office) (design : LayeredDesign) (content : Content)
    → wanted_over o.schema o.live taken options design.layers.items ≡ Ok content → (made : MadeDesigns) (left : Office)
    → IsContentMade may_remove o design.name content made left → IsDesignMade taken options may_remove o design made left
content_made taken options may_remove o design content wanted (Made notes) left (kept, free, is, note) =
    (content, record { wanted = wanted; kept = kept; free = free }, is, note)
content_made taken options may_remove o design content wanted (Refused print) left (by_removal cell removed is, same) =
    (of_removed content cell wanted removed is, same)
content_made taken options may_remove o design content wanted (Refused print) left (by_reply reply kept refused is, same) =
    (of_reply content reply wanted kept refused is, same)
