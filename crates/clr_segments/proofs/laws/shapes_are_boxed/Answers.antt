use Rattle.clr_segments.proofs.ShapeBoxes.{shape_boxed}
use Rattle.clr_segments.proofs.laws.shapes_are_boxed.Goals as goal

pub returns : goal.returns
returns c = shape_boxed
