use Rattle.clr_order_answers.proofs.Choices.{kept_pairs}
use Rattle.clr_order_answers.proofs.laws.kept_pairs_work.Goals as goal

pub returns : goal.returns
returns c = kept_pairs
