use Rattle.std.proofs.Common.{◌∙◌, map}
use Rattle.csv.specs.Records.{fields_of}
use Rattle.clr_skipped_records.proofs.SplitLemmas.{skipped_made}
use Rattle.clr_skipped_records.proofs.skipped_records.skipped_record.Goals as goal

pub returns : goal.returns
returns c =
    skipped_made c.args.table.now (map fields_of c.args.records.now) c.args.found.now _ _ _ _ c.record_at-fields.ensures c.requires
    (c.as_slice.ensures.value ∙ c.in_ok-why.ensures) c.in_ok-made.ensures
