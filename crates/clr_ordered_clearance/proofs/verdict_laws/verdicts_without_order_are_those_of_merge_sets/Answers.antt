use Rattle.clr_ordered_clearance.proofs.WithoutOrderLemmas.{cleared_without_order, start_without_order, verdict_without_order}
use Rattle.clr_ordered_clearance.proofs.verdict_laws.verdicts_without_order_are_those_of_merge_sets.Goals as goal

pub returns : goal.returns
returns c = record { verdict = verdict_without_order; cleared = cleared_without_order; start = start_without_order }
