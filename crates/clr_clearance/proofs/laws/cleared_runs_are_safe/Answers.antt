use Rattle.clr_clearance.proofs.RunLemmas.{cleared_run}
use Rattle.clr_clearance.proofs.laws.cleared_runs_are_safe.Goals as goal

pub returns : goal.returns
returns c = cleared_run
