use Rattle.clr_written_cuts.proofs.BackLemmas.{written_back}
use Rattle.clr_written_cuts.proofs.laws.what_is_written_back_breaks_no_more.Goals as goal

pub returns : goal.returns
returns c = written_back
