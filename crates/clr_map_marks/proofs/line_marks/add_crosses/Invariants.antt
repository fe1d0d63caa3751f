use Rattle.clr_map_marks.specs.LineMarks.{DrawsCrossAt}
use Rattle.clr_map_marks.proofs.EachLemmas.{EachSoFar}
use Rattle.clr_map_marks.proofs.line_marks.add_crosses.Given as goal

-- the crosses so far are drawn
abbrev pub invariant-loop-spot : goal.invariant-loop-spot
invariant-loop-spot l = EachSoFar (DrawsCrossAt l.colour) l.spots l.spot-index l.initial.sketch.elements.items l.sketch.elements.items
