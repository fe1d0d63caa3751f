-- What a clear verdict promises of a run of the first commands of a list, up to one that isn't quiet.
use Rattle.std.proofs.Common.{length, take}
use Rattle.clr_steps.proofs.RunLemmas.{run_law}
use Rattle.clr_clearance.specs.Laws.{ClearIsSafeLaw, ClearedRunLaw}
use Rattle.clr_clearance.proofs.ClearLemmas.{clear_covers}
use Rattle.clr_clearance.proofs.ReplyLemmas.{quiet_run}
use Rattle.clr_clearance.proofs.SafeLemmas.{safe_law}
use Rattle.clr_clearance.proofs.StaticLemmas.{static_law}

pub clear_is_safe : ClearIsSafeLaw
clear_is_safe o merge_set entries clear = let covers = clear_covers o merge_set entries clear in (
  static_law o merge_set entries covers,
  safe_law o merge_set entries covers,
)

pub cleared_run : ClearedRunLaw
cleared_run o merge_set entries commands replies left stopped clear start =
    let performed = take (length replies) commands in
    quiet_run o merge_set (clear_is_safe o merge_set entries clear).1 performed replies left start.quiet (run_law o performed replies left start.answers)
