use Rattle.clr_clearance.proofs.ReplyLemmas.{quiet_reply, quiet_run}
use Rattle.clr_clearance.proofs.headline_laws.quiet_runs_are_cleared.Goals as goal

pub returns : goal.returns
returns c = record { reply = quiet_reply; run = quiet_run }
