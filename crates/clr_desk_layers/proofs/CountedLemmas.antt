-- What is printed of a design, told of its edits, and how much it changes.
use Rattle.std.proofs.Common.{◌≡◌, ◌∙◌, List, Bool, Option, Some, None, Result, IfOk, ap, sym}
use Rattle.std.proofs.lemmas.Result.{IfOk-weaker}
use Rattle.clr_rows.specs.declared.cells.CellId.{CellId}
use Rattle.clr_rows.specs.declared.tables.TableDef.{TableDef}
use Rattle.clr_rows.specs.Contents.{Content}
use Rattle.clr_change.specs.declared.edits.Edit.{Edit}
use Rattle.clr_steps.specs.Offices.{Office}
use Rattle.clr_layer_changes.specs.Changes.{edits_between}
use Rattle.clr_designs.specs.Counts.{edit_counts_text}
use Rattle.clr_desk_prints.specs.NameHints.{with_lines}
use Rattle.clr_desk_prints.specs.Printing.{PrintoutOrFault, printed}
use Rattle.clr_desk_prints.specs.declared.prints.Print.{Print}
use Rattle.clr_desk_layers.specs.Counted.{IsCounted, IsPrintUnlessRemoving, of_kept, of_removal, removal_in, removal_print}

module _ {E : Type 0} (may_remove : Bool) (copied : Content) (IsPrint : Office → Content → PrintoutOrFault → Type 0) (o : Office) (content : Content)
    (edits : List Edit) (are : edits ≡ edits_between copied content) (result : Result Print E) where
  removal_is : (found want : Option CellId) → found ≡ removal_in may_remove edits → found ≡ want → removal_in may_remove (edits_between copied content) ≡ want
  removal_is found want read is = ap (removal_in may_remove) (sym are) ∙ sym read ∙ is

  pub kept_is_printed : (found : Option CellId) → found ≡ removal_in may_remove edits → found ≡ None → IfOk result (λ p. IsPrint o content (printed p))
      → IfOk result (λ p. IsPrintUnlessRemoving may_remove copied IsPrint o content (printed p))
  kept_is_printed found read is made =
      IfOk-weaker result (λ p. IsPrint o content (printed p)) (λ p. IsPrintUnlessRemoving may_remove copied IsPrint o content (printed p))
      (λ p h. of_kept (removal_is found None read is) h) made

  pub removal_is_printed : (found : Option CellId) (cell : CellId) (tables : List TableDef) → found ≡ removal_in may_remove edits → found ≡ Some cell
      → tables ≡ o.schema → IfOk result (λ p. printed p ≡ removal_print tables cell)
      → IfOk result (λ p. IsPrintUnlessRemoving may_remove copied IsPrint o content (printed p))
  removal_is_printed found cell tables read is schema made =
      IfOk-weaker result (λ p. printed p ≡ removal_print tables cell) (λ p. IsPrintUnlessRemoving may_remove copied IsPrint o content (printed p))
      (λ p h. of_removal cell (removal_is found (Some cell) read is) (h ∙ ap (λ (ts : List TableDef). removal_print ts cell) schema)) made

  -- a print with its counts
  pub counts_are_printed : (bare : Print) → IsPrintUnlessRemoving may_remove copied IsPrint o content (printed bare)
      → IfOk result (λ p. printed p ≡ with_lines (edit_counts_text edits) (printed bare)) → IfOk result (λ p. IsCounted may_remove copied IsPrint o content (printed p))
  counts_are_printed bare is made =
      IfOk-weaker result (λ p. printed p ≡ with_lines (edit_counts_text edits) (printed bare)) (λ p. IsCounted may_remove copied IsPrint o content (printed p))
      (λ p h. (printed bare, is, h ∙ ap (λ (es : List Edit). with_lines (edit_counts_text es) (printed bare)) are)) made
