use Rattle.std.proofs.Common.{None, sym, ◌∙◌, ap, get_or, pos}
use Rattle.std.specs.FinMap as finite
use Rattle.clr_rows.specs.declared.cells.CellId.{CellId}
use Rattle.clr_rows.specs.Contents.{Content}
use Rattle.clr_rows.proofs.WriteLemmas.{over-none, over_more}
use Rattle.clr_rows.proofs.sheets.writes.take_all.Goals as goal

pub loop-cell-init : goal.loop-cell-init
loop-cell-init c = sym (over-none c.args.sheet.now)

pub loop-cell-preserved : goal.loop-cell-preserved
loop-cell-preserved c =
    let origin : CellId = record { table = 0; key = pos 0 } in
    let cell = get_or c.args.cells.now c.loop-cell.cell-index origin in
    c.take.ensures.removed ∙ ap (λ (m : Content). finite.remove m cell) c.loop-cell.invariant
    ∙ sym (over_more c.args.sheet.now None c.args.cells.now c.loop-cell.cell-index origin c.loop-cell-test.true)
