-- A design that is made with a note, or what is printed where it can't be made.
use Rattle.std.specs.Prelude.{◌≡◌, ℕ, Bool, List, Some, None, Ok}
use Rattle.clr_rows.specs.declared.cells.CellId.{CellId}
use Rattle.clr_rows.specs.Contents.{Content}
use Rattle.clr_rows.specs.Schemas.{FitsSchema}
use Rattle.clr_workspaces.specs.Marks.{Name}
use Rattle.clr_steps.specs.declared.commands.Reply.{Reply}
use Rattle.clr_steps.specs.Offices.{Office}
use Rattle.clr_layer_changes.specs.Changes.{edits_between}
use Rattle.clr_layer_changes.specs.declared.options.LayerOptions.{LayerOptions}
use Rattle.clr_designs.specs.Counts.{edit_counts_text}
use Rattle.clr_designs.specs.Designs.{design_refusal, with_design}
use Rattle.clr_office_texts.specs.Drafts.{draft_in}
use Rattle.clr_desk_layers.specs.Counted.{removal_in, removal_print}
use Rattle.clr_desk_layers.specs.Designs.{refusal_print}
use Rattle.clr_desk_prints.specs.Printing.{PrintoutOrFault, printed}
use Rattle.clr_desk_designs.specs.InTurn.{AreMade, IsFirstRefused, IsMakeable, IsRefusal, counts_text, named_text}
use Rattle.clr_design_folders.specs.declared.layered_designs.LayeredDesign.{LayeredDesign}
use Rattle.clr_desk_designs.specs.declared.made_designs.MadeDesigns.{MadeDesigns}
use Rattle.clr_desk_designs.specs.declared.made_designs.MadeDesigns.TheVariants.{Made, Refused}

-- why a design can't have a content
pub data IsContentRefusal (may_remove : Bool) (o : Office) (name : Name) (content : Content) (print : PrintoutOrFault) : Type 0 where
  by_removal : (cell : CellId) → removal_in may_remove (edits_between o.live content) ≡ Some cell → print ≡ removal_print o.schema cell
      → IsContentRefusal may_remove o name content print
  by_reply : (reply : Reply) → removal_in may_remove (edits_between o.live content) ≡ None → design_refusal o name ≡ Some reply
      → print ≡ refusal_print o.schema reply → IsContentRefusal may_remove o name content print

-- the design that has a content is made, with its counts as a note; or it can't be made, and the office is as it was
abbrev pub IsContentMade : Bool → Office → Name → Content → MadeDesigns → Office → Type 0
IsContentMade may_remove o name content (Made notes) left =
    (removal_in may_remove (edits_between o.live content) ≡ None) × (design_refusal o name ≡ None) × (left ≡ with_design o name content)
    × (notes.items ≡ named_text name (edit_counts_text (edits_between o.live content)))
IsContentMade may_remove o name content (Refused print) left = IsContentRefusal may_remove o name content (printed print) × (left ≡ o)

-- a design of layers is made, with its counts as a note; or it can't be made, and the office is as it was
abbrev pub IsDesignMade : Content → LayerOptions → Bool → Office → LayeredDesign → MadeDesigns → Office → Type 0
IsDesignMade taken options may_remove o design (Made notes) left =
    (content : Content) × IsMakeable taken options may_remove o design content × (left ≡ with_design o design.name content)
    × (notes.items ≡ counts_text o design content)
IsDesignMade taken options may_remove o design (Refused print) left = IsRefusal taken options may_remove o design (printed print) × (left ≡ o)

-- all designs are made, with their counts as notes; or the first that can't be made is refused
abbrev pub AreAllMade : Content → LayerOptions → Bool → Office → List LayeredDesign → MadeDesigns → Office → Type 0
AreAllMade taken options may_remove o designs (Made notes) left = AreMade taken options may_remove o designs left notes.items
AreAllMade taken options may_remove o designs (Refused print) left = IsFirstRefused taken options may_remove o designs (printed print)

-- a text is read as an office whose schema this content fits
abbrev pub IsTextFitting : List ℕ → Content → Type 0
IsTextFitting text content = (o : Office) × (draft_in text ≡ Ok o) × FitsSchema o.schema content
