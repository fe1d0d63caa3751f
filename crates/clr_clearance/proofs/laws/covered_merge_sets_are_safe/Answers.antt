use Rattle.clr_clearance.proofs.SafeLemmas.{safe_law}
use Rattle.clr_clearance.proofs.laws.covered_merge_sets_are_safe.Goals as goal

pub returns : goal.returns
returns c = safe_law
