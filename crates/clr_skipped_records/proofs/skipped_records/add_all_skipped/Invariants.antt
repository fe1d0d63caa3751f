use Rattle.std.proofs.Common.{◌≡◌, ◌++◌, map, take}
use Rattle.csv.specs.Records.{fields_of}
use Rattle.clr_records.specs.Writing.{records_text}
use Rattle.clr_skipped_records.specs.SkippedRecords.{skipped_record}
use Rattle.clr_skipped_records.proofs.skipped_records.add_all_skipped.Given as goal

-- the lines of the records that have the faults so far are added
abbrev pub invariant-loop-found : goal.invariant-loop-found
invariant-loop-found l = l.text.items
    ≡ l.initial.text.items ++ records_text (map (skipped_record l.table (map fields_of l.records)) (take l.found-index l.faults))
