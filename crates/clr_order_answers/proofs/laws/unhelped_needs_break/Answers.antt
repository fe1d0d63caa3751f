use Rattle.clr_order_answers.proofs.Found.{unhelped}
use Rattle.clr_order_answers.proofs.laws.unhelped_needs_break.Goals as goal

pub returns : goal.returns
returns c = unhelped
