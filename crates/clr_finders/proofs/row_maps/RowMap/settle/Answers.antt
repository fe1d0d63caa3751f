use Rattle.std.proofs.Common.{◌∙◌, ap, sym}
use Rattle.std.specs.FinMap as finite
use Rattle.clr_rows.specs.Cells.{cell_cmp}
use Rattle.clr_finders.specs.RowMaps.{FiledRows}
use Rattle.clr_finders.specs.Sharing.{Pending, next_of, next_at}
use Rattle.clr_finders.proofs.MapLemmas.{next_kept}
use Rattle.clr_finders.proofs.row_maps.RowMap.settle.Goals as goal

pub loop-cell-preserved-in-Some : goal.loop-cell-preserved-in-Some
loop-cell-preserved-in-Some c q = ap (λ (r : FiledRows). next_at r.settled r.pending q) c.settle_at.ensures.after
    ∙ next_kept c.loop-cell.self c.in-Some.cell c.in-Some.ensures q ∙ c.loop-cell.invariant q

pub loop-cell-preserved : goal.loop-cell-preserved
loop-cell-preserved c q = ap (λ (r : FiledRows). next_at r.settled r.pending q) c.settle_at.ensures.after
    ∙ next_kept c.loop-cell.self c.in-Some.cell c.in-Some.ensures q ∙ c.loop-cell.invariant q

pub returns : goal.returns
returns c = record {
  settled = λ q. sym (ap (next_of (finite.get c.loop-cell.self.settled q)) (ap (λ (p : Pending). finite.get p q) c.in_default.ensures
      ∙ finite.get-empty cell_cmp q)) ∙ c.loop-cell.invariant q;
  pending = c.in_default.ensures;
}
