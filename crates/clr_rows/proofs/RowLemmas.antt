-- The rows of a content after one of them is put or taken.
use Rattle.std.proofs.Common.{◌≡◌, true, false, cond, Some, None, refl, ap, ◌∙◌}
use Rattle.std.specs.Ordering.{eq_by_cmp, is_eq}
use Rattle.std.specs.Cmp.{tied_itself}
use Rattle.std.specs.declared.cmp.Ordering.{Ordering}
use Rattle.std.specs.declared.cmp.Ordering.TheVariants.{Less, Equal, Greater}
use Rattle.std.specs.FinMap as finite
use Rattle.clr_rows.specs.declared.cells.CellId.{CellId}
use Rattle.clr_rows.specs.declared.rows.Row.{Row}
use Rattle.clr_rows.specs.Cells.{cell_cmp}
use Rattle.clr_rows.specs.Contents.{Content, row_at}
use Rattle.clr_rows.proofs.CellOrder.{cell_cmp_total, cell_cmp_exact}

-- two cells that tie are one
pub tied_cells : (a b : CellId) → eq_by_cmp cell_cmp a b ≡ true → a ≡ b
tied_cells a b e = cell_cmp_exact a b (equal (cell_cmp a b) e)
  where
    equal : (r : Ordering) → is_eq r ≡ true → r ≡ Equal
    equal Less e = cc
    equal Equal e = refl
    equal Greater e = cc

-- the row at a cell after one was put there, or taken away, and at any other cell
pub put_here : (m : Content) (cell : CellId) (row : Row) → row_at (finite.insert m cell row) cell ≡ Some row
put_here m cell row = finite.get-insert cell_cmp_total m cell row cell
    ∙ ap (λ b. cond b (Some row) (finite.get m cell)) (ap is_eq (tied_itself cell_cmp_total cell))

pub put_elsewhere : (m : Content) (cell other : CellId) (row : Row) → eq_by_cmp cell_cmp other cell ≡ false → row_at (finite.insert m cell row) other
    ≡ row_at m other
put_elsewhere m cell other row apart = finite.get-insert cell_cmp_total m cell row other ∙ ap (λ b. cond b (Some row) (finite.get m other)) apart

pub taken_here : (m : Content) (cell : CellId) → row_at (finite.remove m cell) cell ≡ None
taken_here m cell = finite.get-remove cell_cmp_total m cell cell ∙ ap (λ b. cond b None (finite.get m cell)) (ap is_eq (tied_itself cell_cmp_total cell))

pub taken_elsewhere : (m : Content) (cell other : CellId) → eq_by_cmp cell_cmp other cell ≡ false → row_at (finite.remove m cell) other ≡ row_at m other
taken_elsewhere m cell other apart = finite.get-remove cell_cmp_total m cell other ∙ ap (λ b. cond b None (finite.get m other)) apart

pub ruleset rows_after = (put_here, put_elsewhere, taken_here, taken_elsewhere)
