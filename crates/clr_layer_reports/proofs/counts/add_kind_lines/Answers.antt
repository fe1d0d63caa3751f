use Rattle.clr_layer_text.proofs.Turns.{text_more}
use Rattle.clr_layer_reports.specs.Reports.{kind_line}
use Rattle.clr_layer_reports.proofs.counts.add_kind_lines.Goals as goal

pub loop-found-preserved : goal.loop-found-preserved
loop-found-preserved c = text_more (kind_line c.args.file.now c.args.table.now c.args.faults.now) c.args.kinds.now c.loop-found.found-index _ _ _ _
    c.loop-found-test.true c.loop-found.invariant c.in_ok-add_kind_line.ensures
