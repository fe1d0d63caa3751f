use Rattle.std.proofs.lemmas.Bool.Decides.{same_from_decides}
use Rattle.clr_rows.proofs.SameLemmas.{value_decides}
use Rattle.clr_guarded_edits.proofs.assignments.is_same_value.Goals as goal

pub returns : goal.returns
returns c = same_from_decides _ _ c.same.ensures (value_decides c.args.one.now c.args.other.now)
