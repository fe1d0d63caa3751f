-- What holds of each value of a map still holds once one is put in or taken out, and so rows that fit a schema.
use Rattle.std.proofs.Common.{◌≡◌, ◌∙◌, Bool, true, false, cond, List, Option, Some, None, refl, sym, subst}
use Rattle.std.proofs.lemmas.Option.{none-some, same_Some}
use Rattle.std.specs.FinMap as finite
use Rattle.std.specs.FinMap.{FinMap}
use Rattle.std.specs.Ordering.{eq_by_cmp}
use Rattle.std.specs.Prelude.{OnOk, OnErr, Result, Ok, Err}
use Rattle.std.specs.declared.alloc.AllocError.{AllocError}
use Rattle.clr_rows.specs.declared.cells.CellId.{CellId}
use Rattle.clr_rows.specs.declared.rows.Row.{Row}
use Rattle.clr_rows.specs.declared.tables.TableDef.{TableDef}
use Rattle.clr_rows.specs.Cells.{cell_cmp}
use Rattle.clr_rows.specs.Contents.{Content, no_rows}
use Rattle.clr_rows.specs.Schemas.{FitsSchema, row_fault}
use Rattle.clr_rows.proofs.CellOrder.{cell_cmp_total}
use Rattle.clr_rows.proofs.RowLemmas.{tied_cells}

module _ {X : Type 0} (P : CellId → X → Type 0) where
  abbrev pub HoldsOfEach : FinMap cell_cmp X → Type 0
  HoldsOfEach m = (cell : CellId) (x : X) → finite.get m cell ≡ Some x → P cell x

  pub put_keeps : (m : FinMap cell_cmp X) (cell : CellId) (x : X) → HoldsOfEach m → P cell x → HoldsOfEach (finite.insert m cell x)
  put_keeps m cell x all one = λ c y e. by c y (eq_by_cmp cell_cmp c cell) refl (sym (finite.get-insert cell_cmp_total m cell x c) ∙ e)
    where
      by : (c : CellId) (y : X) (tie : Bool) → eq_by_cmp cell_cmp c cell ≡ tie → cond tie (Some x) (finite.get m c) ≡ Some y → P c y
      by c y true tie e = subst (λ k. P k y) (sym (tied_cells c cell tie)) (subst (λ z. P cell z) (same_Some x y e) one)
      by c y false tie e = all c y e

  pub take_keeps : (m : FinMap cell_cmp X) (cell : CellId) → HoldsOfEach m → HoldsOfEach (finite.remove m cell)
  take_keeps m cell all = λ c y e. by c y (eq_by_cmp cell_cmp c cell) (sym (finite.get-remove cell_cmp_total m cell c) ∙ e)
    where
      by : (c : CellId) (y : X) (tie : Bool) → cond tie None (finite.get m c) ≡ Some y → P c y
      by c y true e = absurd (none-some y e)
      by c y false e = all c y e

  pub none_keeps : HoldsOfEach finite.empty
  none_keeps cell x e = absurd (none-some x (sym (finite.get-empty cell_cmp cell) ∙ e))

module _ (tables : List TableDef) where
  -- a content that a row is put into, or that finds no memory for it, still fits
  pub put_fits : (old new : Content) (cell : CellId) (row : Row) (r : Result (Option Row) AllocError) → OnOk r (new ≡ finite.insert old cell row)
      → OnErr r (new ≡ old) → FitsSchema tables old → row_fault tables cell row ≡ None → FitsSchema tables new
  put_fits old new cell row (Ok before) put left all one = subst (λ (m : Content). FitsSchema tables m) (sym put) (put_keeps (λ c r. row_fault tables c r
      ≡ None) old cell row all one)
  put_fits old new cell row (Err e) put left all one = subst (λ (m : Content). FitsSchema tables m) (sym left) all

  pub none_fit : FitsSchema tables no_rows
  none_fit = none_keeps (λ c r. row_fault tables c r ≡ None)

  pub no_rows_fit : (rows : Content) → rows ≡ no_rows → FitsSchema tables rows
  no_rows_fit rows is = subst (λ (m : Content). FitsSchema tables m) (sym is) none_fit
