use Rattle.std.proofs.Common.{map}
use Rattle.std.proofs.lemmas.Result.{IfOk-weaker}
use Rattle.csv.specs.Records.{fields_of}
use Rattle.clr_skipped_records.proofs.SplitLemmas.{is_not_split, is_split}
use Rattle.clr_skipped_records.proofs.splits.split_below.Goals.{in-Err, in-Ok+in_ok-split-in-Ok}
use Rattle.clr_skipped_records.proofs.splits.split_below.Goals as goal

pub returns : goal.returns
returns c =
    let tables = c.args.schema.now in
    let table = c.args.table.now in
    let rows = map fields_of c.args.records.now in
    elim c.match-find_headings.branch [
      | in-Ok+in_ok-split-in-Ok w ↦
          rw w.result-is
          (is_split tables c.args.at table c.args.rounded rows w.in_ok-split-in-Ok.split _ _ c.requires.header w.in-Ok.ensures w.in_ok-split-in-Ok.ensures)
      | in-Err w ↦
          rw w.result-is
          (IfOk-weaker w.unsplit.result _ _
          (λ split none. is_not_split tables c.args.at table c.args.rounded rows (fields_of c.args.header.now) w.in-Err.fault split c.requires.header
          w.in-Err.ensures none.0 none.1) w.unsplit.ensures)
    ]
