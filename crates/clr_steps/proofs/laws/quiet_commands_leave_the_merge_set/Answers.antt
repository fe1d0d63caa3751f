use Rattle.clr_steps.proofs.QuietLemmas.{quiet_law}
use Rattle.clr_steps.proofs.laws.quiet_commands_leave_the_merge_set.Goals as goal

pub returns : goal.returns
returns c = quiet_law
