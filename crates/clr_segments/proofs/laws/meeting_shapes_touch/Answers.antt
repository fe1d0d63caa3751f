use Rattle.clr_segments.proofs.ShapeBoxes.{shapes_touch}
use Rattle.clr_segments.proofs.laws.meeting_shapes_touch.Goals as goal

pub returns : goal.returns
returns c = shapes_touch
