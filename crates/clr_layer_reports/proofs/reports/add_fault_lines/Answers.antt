use Rattle.std.proofs.Common.{map}
use Rattle.csv.specs.Records.{fields_of}
use Rattle.clr_layer_text.proofs.Turns.{text_more}
use Rattle.clr_layer_reports.specs.Reports.{fault_line}
use Rattle.clr_layer_reports.proofs.reports.add_fault_lines.Goals as goal

pub loop-found-preserved : goal.loop-found-preserved
loop-found-preserved c = text_more (fault_line c.args.file.now c.args.bytes.now c.args.table.now (map fields_of c.args.records.now) c.args.near.now) c.args.faults.now
    c.loop-found.found-index _ _ _ _ c.loop-found-test.true c.loop-found.invariant c.in_ok-add_fault_line.ensures
