use Rattle.clr_clearance.proofs.HeadlineLemmas.{headline}
use Rattle.clr_clearance.proofs.headline_laws.clear_keeps_the_headline.Goals as goal

pub returns : goal.returns
returns c = headline
