use Rattle.clr_clearance.proofs.CheckLemmas.{all_judged, first_judged}
use Rattle.clr_clearance.proofs.check_laws.needs_are_judged_in_order.Goals as goal

pub returns : goal.returns
returns c = record { all = all_judged; first = first_judged }
