use Rattle.std.proofs.Common.{None, refl}
use Rattle.clr_item_explanations.proofs.TellingLemmas.{nothing}
use Rattle.clr_explanations.proofs.offices.unknown_slip.Goals as goal

pub returns : goal.returns
returns c = c.in_ok-slip.ensures None (nothing None refl)
