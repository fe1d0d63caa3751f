use Rattle.clr_office_texts.proofs.Held.{held_law}
use Rattle.clr_office_texts.proofs.laws.rules_hold_where_none_is_unheld.Goals as goal

pub returns : goal.returns
returns c = held_law
