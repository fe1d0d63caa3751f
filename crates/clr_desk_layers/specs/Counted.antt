-- What is printed of a design with how much it changes, or that it would remove a row and mustn't.
use Rattle.std.specs.Prelude.{◌≡◌, ℕ, Bool, true, false, List, codes, Option, Some, None}
use Rattle.clr_rows.specs.declared.cells.CellId.{CellId}
use Rattle.clr_rows.specs.declared.tables.TableDef.{TableDef}
use Rattle.clr_rows.specs.Contents.{Content}
use Rattle.clr_change.specs.declared.edits.Edit.{Edit}
use Rattle.clr_steps.specs.Offices.{Office}
use Rattle.clr_lines.specs.Pieces.{cell_text}
use Rattle.clr_layer_changes.specs.Changes.{edits_between}
use Rattle.clr_designs.specs.Counts.{edit_counts_text, first_removed}
use Rattle.clr_desk_prints.specs.NameHints.{with_lines}
use Rattle.clr_desk_prints.specs.Printing.{PrintoutOrFault}
use Rattle.clr_desk_layers.specs.Layers.{unfit_print}

-- the first row that edits remove, where they mustn't remove any
abbrev pub removal_in : Bool → List Edit → Option CellId
removal_in true edits = None
removal_in false edits = first_removed edits

abbrev pub removal_word : List ℕ
removal_word = codes "11 Removes"

-- no text, and as the only note which row would be removed
abbrev pub removal_print : List TableDef → CellId → PrintoutOrFault
removal_print tables cell = unfit_print removal_word (cell_text tables cell)

-- what is printed of a content that a copied one changes to; or the first row that this removes, where none may be removed
pub data IsPrintUnlessRemoving (may_remove : Bool) (copied : Content) (IsPrint : Office → Content → PrintoutOrFault → Type 0)
    (o : Office) (content : Content) (print : PrintoutOrFault) : Type 0 where
  of_kept : removal_in may_remove (edits_between copied content) ≡ None → IsPrint o content print
      → IsPrintUnlessRemoving may_remove copied IsPrint o content print
  of_removal : (cell : CellId) → removal_in may_remove (edits_between copied content) ≡ Some cell → print ≡ removal_print o.schema cell
      → IsPrintUnlessRemoving may_remove copied IsPrint o content print

-- the same, and behind its notes how many rows of the copied content are added, changed and removed
abbrev pub IsCounted : Bool → Content → (Office → Content → PrintoutOrFault → Type 0) → Office → Content → PrintoutOrFault → Type 0
IsCounted may_remove copied IsPrint o content print =
    (bare : PrintoutOrFault) × IsPrintUnlessRemoving may_remove copied IsPrint o content bare
    × (print ≡ with_lines (edit_counts_text (edits_between copied content)) bare)
