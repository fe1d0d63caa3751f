use Rattle.clr_clashes.proofs.BrokenParts.{parts_break}
use Rattle.clr_clashes.proofs.laws.parts_break_listed_needs.Goals as goal

pub returns : goal.returns
returns c = parts_break
