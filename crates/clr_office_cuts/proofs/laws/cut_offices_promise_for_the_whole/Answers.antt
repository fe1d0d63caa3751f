use Rattle.clr_office_cuts.proofs.OfficeLemmas.{promises}
use Rattle.clr_office_cuts.proofs.laws.cut_offices_promise_for_the_whole.Goals as goal

pub returns : goal.returns
returns c = promises
