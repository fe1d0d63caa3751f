use Rattle.std.proofs.Common.{◌≡◌, Some, drop}
use Rattle.clr_segments.specs.Bounding.{box_with_all, box_of_path}
use Rattle.clr_segments.proofs.boxes.box_of_path.Given as goal

-- the box so far, widened to the vertices that are left, is the whole box
abbrev pub invariant-loop-vertex : goal.invariant-loop-vertex
invariant-loop-vertex l = Some (box_with_all l.bounds (drop l.vertex-index l.vertex-items)) ≡ box_of_path l.vertices
