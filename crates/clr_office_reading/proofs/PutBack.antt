-- A row is put where another stands, and then that one is put back: the content is as before.
use Rattle.std.proofs.Common.{◌≡◌, Bool, true, false, cond, Some, refl, sym, ap, ◌∙◌}
use Rattle.std.specs.FinMap as finite
use Rattle.std.specs.Ordering.{eq_by_cmp}
use Rattle.clr_rows.specs.declared.cells.CellId.{CellId}
use Rattle.clr_rows.specs.declared.rows.Row.{Row}
use Rattle.clr_rows.specs.Cells.{cell_cmp}
use Rattle.clr_rows.specs.Contents.{Content, row_at}
use Rattle.clr_rows.proofs.CellOrder.{cell_cmp_total}
use Rattle.clr_rows.proofs.ChangeLemmas.{same_content}
use Rattle.clr_rows.proofs.RowLemmas.{tied_cells}

pub put_back : (m : Content) (cell : CellId) (row before : Row) → row_at m cell ≡ Some before → finite.insert (finite.insert m cell row) cell before ≡ m
put_back m cell row before stood = same_content _ _ (λ q.
    finite.get-insert cell_cmp_total (finite.insert m cell row) cell before q
    ∙ ap (cond (eq_by_cmp cell_cmp q cell) (Some before)) (finite.get-insert cell_cmp_total m cell row q)
    ∙ back q (eq_by_cmp cell_cmp q cell) refl)
  where
    back : (q : CellId) (b : Bool) → eq_by_cmp cell_cmp q cell ≡ b → cond b (Some before) (cond b (Some row) (row_at m q)) ≡ row_at m q
    back q true e = sym (ap (row_at m) (tied_cells q cell e) ∙ stood)
    back q false e = refl
