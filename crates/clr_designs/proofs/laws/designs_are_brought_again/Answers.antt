use Rattle.clr_designs.proofs.AgainLemmas.{again_law}
use Rattle.clr_designs.proofs.laws.designs_are_brought_again.Goals as goal

pub returns : goal.returns
returns c = again_law
