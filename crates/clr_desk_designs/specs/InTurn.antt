-- Several designs of layers, made one after another in their order.
use Rattle.std.specs.Prelude.{◌≡◌, ℕ, Bool, false, List, [], ◌∷◌, ◌++◌, codes, Some, None, Ok, Err, slice_get, take}
use Rattle.clr_rows.specs.declared.cells.CellId.{CellId}
use Rattle.clr_rows.specs.Contents.{Content}
use Rattle.clr_workspaces.specs.Marks.{Name}
use Rattle.clr_steps.specs.declared.commands.Reply.{Reply}
use Rattle.clr_steps.specs.Offices.{Office}
use Rattle.clr_layer_changes.specs.Changes.{edits_between}
use Rattle.clr_layer_changes.specs.Wanted.{united, wanted_over}
use Rattle.clr_layer_changes.specs.declared.faults.FaultyLayer.{FaultyLayer}
use Rattle.clr_layer_changes.specs.declared.options.LayerOptions.{LayerOptions}
use Rattle.clr_designs.specs.Counts.{edit_counts_text}
use Rattle.clr_designs.specs.Designs.{design_refusal, with_design, with_live}
use Rattle.clr_office_texts.specs.Drafts.{draft_in}
use Rattle.clr_desk_errors.specs.Accepting.{IsPrintoutOfDraft}
use Rattle.clr_desk_layers.specs.Counted.{removal_in, removal_print}
use Rattle.clr_desk_layers.specs.Designs.{IsOfficeText, faulty_layer_printout, refusal_print}
use Rattle.clr_desk_layers.specs.Layers.{unfit_print}
use Rattle.clr_desk_layers.specs.Since.{IsFirstOther, other_schema_word}
use Rattle.clr_desk_prints.specs.Printing.{PrintoutOrFault, printout_of}
use Rattle.clr_design_folders.specs.declared.layered_designs.LayeredDesign.{LayeredDesign}

-- lines about a design, with its name in front
abbrev pub named_text : Name → List ℕ → List ℕ
named_text name lines = name ++ codes ": " ++ lines

abbrev pub with_name : Name → PrintoutOrFault → PrintoutOrFault
with_name name (Ok print) = Ok (record print { notes = named_text name print.notes })
with_name name (Err e) = Err e

-- a design of layers that were copied from what LIVE has can be made, and then sees this content; rows without keys get none at which `taken` has a row
pub record IsMakeable (taken : Content) (options : LayerOptions) (may_remove : Bool) (o : Office) (design : LayeredDesign) (content : Content) : Type 0 where
  pub wanted : wanted_over o.schema o.live taken options design.layers.items ≡ Ok content
  pub kept : removal_in may_remove (edits_between o.live content) ≡ None
  pub free : design_refusal o design.name ≡ None

-- how many rows the design adds, changes and removes, with its name
abbrev pub counts_text : Office → LayeredDesign → Content → List ℕ
counts_text o design content = named_text design.name (edit_counts_text (edits_between o.live content))

-- why a design can't be made: the line of a fault of a layer, of a row that it removes and mustn't, or of a workspace that can't be created
pub data IsRefusal (taken : Content) (options : LayerOptions) (may_remove : Bool) (o : Office) (design : LayeredDesign) (print : PrintoutOrFault) : Type 0 where
  of_layer : (faulty : FaultyLayer) → wanted_over o.schema o.live taken options design.layers.items ≡ Err faulty
      → print ≡ faulty_layer_printout design.layers.items faulty → IsRefusal taken options may_remove o design print
  of_removed : (content : Content) (cell : CellId) → wanted_over o.schema o.live taken options design.layers.items ≡ Ok content
      → removal_in may_remove (edits_between o.live content) ≡ Some cell → print ≡ removal_print o.schema cell
      → IsRefusal taken options may_remove o design print
  of_reply : (content : Content) (reply : Reply) → wanted_over o.schema o.live taken options design.layers.items ≡ Ok content
      → removal_in may_remove (edits_between o.live content) ≡ None → design_refusal o design.name ≡ Some reply → print ≡ refusal_print o.schema reply
      → IsRefusal taken options may_remove o design print

-- each of some designs is made over the office that those before it left, and this office and these notes are left
abbrev pub AreMade : Content → LayerOptions → Bool → Office → List LayeredDesign → Office → List ℕ → Type 0
AreMade taken options may_remove o [] left notes = (left ≡ o) × (notes ≡ [])
AreMade taken options may_remove o (design ∷ designs) left notes =
    (content : Content) × (rest : List ℕ) × IsMakeable taken options may_remove o design content
    × AreMade taken options may_remove (with_design o design.name content) designs left rest × (notes ≡ counts_text o design content ++ rest)

-- those before one are made, and this one is refused, with its name
pub record IsFirstRefused (taken : Content) (options : LayerOptions) (may_remove : Bool) (o : Office) (designs : List LayeredDesign) (print : PrintoutOrFault)
    : Type 0 where
  pub at : ℕ
  pub design : LayeredDesign
  pub there : slice_get designs at ≡ Some design
  pub before : Office
  pub notes : List ℕ
  pub made : AreMade taken options may_remove o (take at designs) before notes
  pub bare : PrintoutOrFault
  pub refused : IsRefusal taken options may_remove before design bare
  pub named : print ≡ with_name design.name bare

-- the text of an office, with these notes
abbrev pub IsTextOf : Office → List ℕ → PrintoutOrFault → Type 0
IsTextOf o notes print = (text : List ℕ) × IsOfficeText o text × (print ≡ printout_of text notes false false)

-- what is to be printed of designs that are made one after another: the text of the office that is left, or of another with its workspaces, and how much each
-- of them changes; or why the first that can't be made can't
pub data IsPrintOfDesigns (taken : Content) (options : LayerOptions) (may_remove : Bool) (designs : List LayeredDesign) (Shown : Office → Office) (o : Office)
    (print : PrintoutOrFault) : Type 0 where
  of_all : (left : Office) (notes : List ℕ) → AreMade taken options may_remove o designs left notes → IsTextOf (Shown left) notes print
      → IsPrintOfDesigns taken options may_remove designs Shown o print
  of_first : IsFirstRefused taken options may_remove o designs print → IsPrintOfDesigns taken options may_remove designs Shown o print

-- what is to be printed of designs of layers that were copied from LIVE as it is
abbrev pub IsDesignsPrint : LayerOptions → Bool → List LayeredDesign → Office → PrintoutOrFault → Type 0
IsDesignsPrint options may_remove designs o = IsPrintOfDesigns o.live options may_remove designs (λ (left : Office). left) o

-- the same of layers that were copied from another office of the same schema: the designs are made there, and then LIVE moves on to what it is. Or the first
-- table that isn't the same
pub data IsDesignsSince (options : LayerOptions) (may_remove : Bool) (designs : List LayeredDesign) (o copied : Office) (print : PrintoutOrFault) : Type 0 where
  of_same : copied.schema ≡ o.schema
      → IsPrintOfDesigns (united o.live copied.live) options may_remove designs (λ (left : Office). with_live left o.live) (with_live o copied.live) print
      → IsDesignsSince options may_remove designs o copied print
  of_other : (table : Name) → IsFirstOther o.schema copied.schema table → print ≡ unfit_print other_schema_word table
      → IsDesignsSince options may_remove designs o copied print

-- the same of the text of the office that was copied, in which rules may be broken; or that this is none
abbrev pub IsDesignsSincePrint : List ℕ → LayerOptions → Bool → List LayeredDesign → Office → PrintoutOrFault → Type 0
IsDesignsSincePrint copied options may_remove designs o = IsPrintoutOfDraft (IsDesignsSince options may_remove designs o) (draft_in copied)
