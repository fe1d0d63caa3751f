use Rattle.std.proofs.Common.{map}
use Rattle.csv.specs.Records.{fields_of}
use Rattle.csv.specs.Writing.{default_writer, row_text}
use Rattle.clr_layer_text.proofs.Turns.{itself}
use Rattle.clr_records.proofs.Turns.{texts_more}
use Rattle.clr_skipped_records.specs.SkippedRecords.{skipped_record}
use Rattle.clr_skipped_records.proofs.skipped_records.add_all_skipped.Goals as goal

pub loop-found-preserved : goal.loop-found-preserved
loop-found-preserved c =
    texts_more (row_text default_writer) (skipped_record c.args.table.now (map fields_of c.args.records.now)) c.args.faults.now c.loop-found.found-index _ _ _ _
    c.loop-found-test.true (itself c.args.faults.now c.loop-found.found-index _ c.loop-found-test.true) c.loop-found.invariant c.in_ok-add_skipped.ensures
