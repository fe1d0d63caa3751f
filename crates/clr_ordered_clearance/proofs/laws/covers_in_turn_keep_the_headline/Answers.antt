use Rattle.clr_ordered_clearance.proofs.HeadlineLemmas.{headline_in_turn}
use Rattle.clr_ordered_clearance.proofs.laws.covers_in_turn_keep_the_headline.Goals as goal

pub returns : goal.returns
returns c = headline_in_turn
