use Rattle.std.proofs.Common.{◌<◌, sym, subst}
use Rattle.std.specs.FinMap as finite
use Rattle.clr_finders.specs.RowMaps.{FiledRows}
use Rattle.clr_finders.proofs.MapLemmas.{fewer_left}
use Rattle.clr_grid.proofs.spot_index.SpotIndexRowFinder.forget.Goals as goal

pub loop-cell-smaller : goal.loop-cell-smaller
loop-cell-smaller c = subst (λ (r : FiledRows). finite.len r.pending < finite.len c.loop-cell.self.pending) (sym c.forget_at.ensures)
    (fewer_left c.loop-cell.self.pending c.in-Some.cell c.in-Some.ensures)
