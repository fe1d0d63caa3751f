use Rattle.clr_rows.proofs.ChangeLemmas.{row-taken_over}
use Rattle.clr_rows.proofs.laws.over_law.Goals as goal

pub returns : goal.returns
returns c = row-taken_over
