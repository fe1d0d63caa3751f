use Rattle.std.proofs.Common.{◌≡◌, ◌+◌, drop, map}
use Rattle.csv.specs.Records.{fields_of}
use Rattle.clr_records.specs.Records.{at_record, in_turn}
use Rattle.clr_scripts.specs.Edits.{edit_of, edits_from}
use Rattle.clr_readings.proofs.Fronts.{with_front}
use Rattle.clr_scripts.proofs.edits.edits.Given as goal

-- the edits so far, with those of the records that are left, are all the edits
abbrev pub invariant-loop-i : goal.invariant-loop-i
invariant-loop-i l = with_front l.list.items (in_turn (λ n row. at_record n (edit_of l.schema (fields_of row))) (l.first + l.i) (drop l.i l.records))
    ≡ edits_from l.schema l.first (map fields_of l.records)
