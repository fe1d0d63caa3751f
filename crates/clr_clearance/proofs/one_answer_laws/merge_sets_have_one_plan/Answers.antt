use Rattle.clr_clearance.proofs.OneAnswerLemmas.{one_blocked, one_cleared, one_kind, one_unfit}
use Rattle.clr_clearance.proofs.one_answer_laws.merge_sets_have_one_plan.Goals as goal

pub returns : goal.returns
returns c = record { kind = one_kind; unfit = one_unfit; cleared = one_cleared; blocked = one_blocked }
