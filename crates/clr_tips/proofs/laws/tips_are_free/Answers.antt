use Rattle.clr_tips.proofs.FreeKeys.{tips_are_free}
use Rattle.clr_tips.proofs.laws.tips_are_free.Goals as goal

pub returns : goal.returns
returns c = tips_are_free
