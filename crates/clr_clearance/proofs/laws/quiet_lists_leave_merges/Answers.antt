use Rattle.clr_clearance.proofs.SafeLemmas.{quiet_list_law}
use Rattle.clr_clearance.proofs.laws.quiet_lists_leave_merges.Goals as goal

pub returns : goal.returns
returns c = quiet_list_law
