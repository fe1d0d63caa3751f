use Rattle.clr_segments.proofs.ShapeBoxes.{part_boxed}
use Rattle.clr_segments.proofs.laws.parts_are_boxed.Goals as goal

pub returns : goal.returns
returns c = part_boxed
