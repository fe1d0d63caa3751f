use Rattle.clr_designs.proofs.SinceLemmas.{since_law}
use Rattle.clr_designs.proofs.laws.designs_were_made_since.Goals as goal

pub returns : goal.returns
returns c = since_law
