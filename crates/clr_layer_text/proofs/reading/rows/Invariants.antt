use Rattle.std.proofs.Common.{◌≡◌, ◌+◌, drop, map}
use Rattle.csv.specs.Records.{fields_of}
use Rattle.clr_records.specs.Records.{at_record, in_turn}
use Rattle.clr_readings.proofs.Fronts.{with_front}
use Rattle.clr_layer_text.specs.Headings.{seen_headings}
use Rattle.clr_layer_text.specs.Layers.{row_of, rows_from}
use Rattle.clr_layer_text.proofs.reading.rows.Given as goal

-- the rows so far, with those of the records that are left, are all the rows
abbrev pub invariant-loop-i : goal.invariant-loop-i
invariant-loop-i l =
    with_front l.list.items (in_turn (λ n line. at_record n (row_of l.schema l.table l.rounded (seen_headings l.headings) (fields_of line))) (2 + l.i)
    (drop l.i l.records))
    ≡ rows_from l.schema l.table l.rounded (seen_headings l.headings) 2 (map fields_of l.records)
