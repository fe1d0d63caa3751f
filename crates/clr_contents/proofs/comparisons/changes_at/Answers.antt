use Rattle.std.proofs.Common.{arith}
use Rattle.clr_rows.specs.Contents.{no_changes}
use Rattle.clr_contents.proofs.ComparedLemmas.{set_at-next}
use Rattle.clr_contents.proofs.comparisons.changes_at.Goals as goal

pub loop-cell-preserved : goal.loop-cell-preserved
loop-cell-preserved g c =
    let lt = c.loop-cell-test.true in
    set_at-next (g.B.RowView.content c.args.before.now) (g.A.RowView.content c.args.after.now) c.args.cells.now c.loop-cell.cell-index _ no_changes
    c.loop-cell.set c.set.new.self _ _
    (omega (arith, lt)) c.loop-cell.invariant c.in_ok-set.ensures.ok c.row.ensures c.row-in-loop-cell.ensures
