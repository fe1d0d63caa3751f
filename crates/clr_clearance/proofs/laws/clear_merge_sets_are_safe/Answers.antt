use Rattle.clr_clearance.proofs.RunLemmas.{clear_is_safe}
use Rattle.clr_clearance.proofs.laws.clear_merge_sets_are_safe.Goals as goal

pub returns : goal.returns
returns c = clear_is_safe
