use Rattle.std.proofs.lemmas.Bool.Decides.{same_from_decides}
use Rattle.clr_guarded_edits.proofs.SameShapes.{shape_decides}
use Rattle.clr_guarded_edits.proofs.assignments.is_same_shape.Goals as goal

pub returns : goal.returns
returns c = same_from_decides _ _ c.same.ensures (shape_decides c.args.one.now c.args.other.now)
