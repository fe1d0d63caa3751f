use Rattle.std.proofs.Common.{◌≡◌, take}
use Rattle.std.specs.Prelude.{min, sum_by}
use Rattle.clr_map_scenes.specs.Designs.{sets_of}
use Rattle.clr_map_marks.specs.Points.{most_marks, points_by}
use Rattle.clr_map_marks.proofs.point_marks.marks_at.Given as goal

-- the points of the designs so far are counted
abbrev pub invariant-loop-at : goal.invariant-loop-at
invariant-loop-at l = l.count ≡ min (sum_by (points_by (sets_of l.designs) l.place) (take l.at-index l.order)) most_marks
