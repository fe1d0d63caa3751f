use Rattle.clr_streams.proofs.ShownLemmas.{showable_stays, shown_is_showable}
use Rattle.clr_streams.proofs.shown.shown_texts_are_showable.Goals as goal

pub returns-clause-showable : goal.returns-clause-showable
returns-clause-showable c = shown_is_showable

pub returns-clause-stays : goal.returns-clause-stays
returns-clause-stays c = showable_stays
