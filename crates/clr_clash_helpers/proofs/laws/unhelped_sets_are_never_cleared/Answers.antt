use Rattle.clr_clash_helpers.proofs.Unhelped.{never_cleared}
use Rattle.clr_clash_helpers.proofs.laws.unhelped_sets_are_never_cleared.Goals as goal

pub returns : goal.returns
returns c = never_cleared
