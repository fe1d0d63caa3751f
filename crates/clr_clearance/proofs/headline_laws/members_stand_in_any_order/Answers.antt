use Rattle.clr_clearance.proofs.ReorderedLemmas.{covers_reordered, safe_reordered}
use Rattle.clr_clearance.proofs.headline_laws.members_stand_in_any_order.Goals as goal

pub returns : goal.returns
returns c = record { safe = safe_reordered; covers = covers_reordered }
