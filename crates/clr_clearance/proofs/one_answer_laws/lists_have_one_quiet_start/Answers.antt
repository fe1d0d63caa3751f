use Rattle.clr_clearance.proofs.OneAnswerLemmas.{one_start}
use Rattle.clr_clearance.proofs.one_answer_laws.lists_have_one_quiet_start.Goals as goal

pub returns : goal.returns
returns c = one_start
