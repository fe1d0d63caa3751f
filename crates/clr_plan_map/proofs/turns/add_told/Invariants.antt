use Rattle.std.proofs.Common.{◌≡◌, ◌++◌, map, take}
use Rattle.clr_map_frames.specs.HeadingLines.{said}
use Rattle.clr_plan_map.specs.Turns.{turn_text}
use Rattle.clr_plan_map.proofs.turns.add_told.Given as goal

-- the lines of the precedences so far
abbrev pub invariant-loop-precedence : goal.invariant-loop-precedence
invariant-loop-precedence l =
    said l.column.sketch.elements.items ≡ said l.initial.column.sketch.elements.items ++ map turn_text (take l.precedence-index l.before)
