use Rattle.clr_segments.proofs.PointLemmas.{point_boxed}
use Rattle.clr_segments.proofs.laws.points_are_boxed.Goals as goal

pub returns : goal.returns
returns c = point_boxed
