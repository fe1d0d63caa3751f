use Rattle.clr_svg.proofs.Harmless.{harmless}
use Rattle.clr_svg.proofs.laws.escaped_texts_are_harmless.Goals as goal

pub returns : goal.returns
returns c = harmless
