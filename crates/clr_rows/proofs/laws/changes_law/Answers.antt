use Rattle.clr_rows.proofs.ChangeLemmas.{get-changes}
use Rattle.clr_rows.proofs.laws.changes_law.Goals as goal

pub returns : goal.returns
returns c = get-changes
