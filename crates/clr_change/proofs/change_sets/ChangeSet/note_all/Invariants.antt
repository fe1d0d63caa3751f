use Rattle.std.proofs.Common.{◌≡◌, is_some}
use Rattle.std.specs.FinMap as finite
use Rattle.clr_rows.specs.declared.cells.CellId.{CellId}
use Rattle.clr_rows.specs.Cells.{cell_cmp}
use Rattle.clr_rows.specs.Contents.{row_at}
use Rattle.clr_change.proofs.SetLemmas.{noted_where}
use Rattle.clr_change.proofs.change_sets.ChangeSet.note_all.Given as goal

-- what is left to note makes the whole, at each cell
abbrev pub invariant-loop-cell : goal.invariant-loop-cell
invariant-loop-cell l = (q : CellId) →
    noted_where l.base l.current q (is_some (finite.find cell_cmp q l.cell-iterator)) (finite.get l.self q)
    ≡ noted_where l.base l.current q (is_some (row_at l.cells q)) (finite.get l.fn.self q)
