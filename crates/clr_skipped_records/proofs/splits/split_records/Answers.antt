use Rattle.std.proofs.Common.{◌∙◌, map, refl}
use Rattle.csv.specs.Records.{fields_of}
use Rattle.clr_skipped_records.proofs.SplitLemmas.{both_made}
use Rattle.clr_skipped_records.proofs.splits.split_records.Goals as goal

pub returns : goal.returns
returns c =
    both_made c.args.schema.now c.args.at c.args.table.now c.args.rounded (map fields_of c.args.records.now) _ _ _ _ c.requires.header c.requires.below
    (c.as_slice-faults.ensures.value ∙ c.in_ok-faults.ensures) c.in_ok-taken.ensures c.in_ok-skipped.ensures refl
