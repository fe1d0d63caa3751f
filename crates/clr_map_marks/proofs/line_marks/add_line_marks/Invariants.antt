use Rattle.std.proofs.Common.{reverse}
use Rattle.clr_map_marks.specs.LineMarks.{DrawsDesign}
use Rattle.clr_map_marks.proofs.EachLemmas.{EachSoFar}
use Rattle.clr_map_marks.proofs.line_marks.add_line_marks.Given as goal

-- the designs so far are drawn
abbrev pub invariant-loop-number : goal.invariant-loop-number
invariant-loop-number l = EachSoFar (DrawsDesign l.scene) (reverse l.order) l.number l.initial.sketch.elements.items l.sketch.elements.items
