use Rattle.clr_tips.proofs.KeyLemmas.{tips_differ}
use Rattle.clr_tips.proofs.laws.tips_differ.Goals as goal

pub returns : goal.returns
returns c = tips_differ
