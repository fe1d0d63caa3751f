use Rattle.std.proofs.Common.{refl, arith}
use Rattle.clr_deltas.specs.Differences.{swept_at}
use Rattle.clr_deltas.proofs.SweepLemmas.{swept_at-next}
use Rattle.clr_deltas.proofs.differences.Differences.sweep_at.Goals as goal

pub loop-cell-init : goal.loop-cell-init
unfolding swept_at
loop-cell-init g c = refl

pub loop-cell-preserved : goal.loop-cell-preserved
loop-cell-preserved g c =
    let lt = c.loop-cell-test.true in
    swept_at-next (g.V.RowView.content c.args.below.now) c.args.cells.now c.loop-cell.cell-index _ c.args.self.now c.loop-cell.self c.sweep_cell.new.self
    (omega (arith, lt)) c.loop-cell.invariant c.sweep_cell.ensures
