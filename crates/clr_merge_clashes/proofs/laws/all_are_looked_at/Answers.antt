use Rattle.clr_merge_clashes.proofs.LookedLaw.{all_looked_at}
use Rattle.clr_merge_clashes.proofs.laws.all_are_looked_at.Goals as goal

pub returns : goal.returns
returns c = all_looked_at
