use Rattle.std.proofs.Common.{◌≡◌, ◌++◌, map, take}
use Rattle.clr_drawing.specs.Signs.{line_to}
use Rattle.clr_drawing.proofs.signs.add_lines.Given as goal

-- the lines so far are added
abbrev pub invariant-loop-corner : goal.invariant-loop-corner
invariant-loop-corner l = l.steps.items ≡ l.initial.steps.items ++ map (line_to l.middle l.radius) (take l.corner-index l.corners)
