use Rattle.clr_ordered_clearance.proofs.SettledLemmas.{all_settled, first_unsettled}
use Rattle.clr_ordered_clearance.proofs.verdict_laws.verdicts_in_turn_come_need_by_need.Goals as goal

pub returns : goal.returns
returns c = record { all = all_settled; first = first_unsettled }
