use Rattle.clr_cuts.proofs.ReachLaws.{reached_is_cut}
use Rattle.clr_cuts.proofs.laws.rows_in_reach_make_a_cut.Goals as goal

pub returns : goal.returns
returns c = λ s rows reach. reached_is_cut s rows reach
