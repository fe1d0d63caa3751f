use Rattle.std.proofs.Common.{refl}
use Rattle.clr_skipped_records.proofs.SplitLemmas.{lacks_none}
use Rattle.clr_skipped_records.proofs.splits.unsplit.Goals as goal

pub returns-in_default : goal.returns-in_default
returns-in_default c = (refl, lacks_none c.args.fault c.in_default.not-OutOfMemory)
