use Rattle.clr_steps.proofs.UnheldLemmas.{unheld_law}
use Rattle.clr_steps.proofs.laws.none_is_unheld_where_rules_hold.Goals as goal

pub returns : goal.returns
returns c = unheld_law
