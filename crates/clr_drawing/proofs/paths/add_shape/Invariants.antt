use Rattle.std.proofs.Common.{◌≡◌, fold, take}
use Rattle.clr_rows.specs.Parts.{parts_of}
use Rattle.clr_drawing.specs.Paths.{with_line_of_part}
use Rattle.clr_drawing.proofs.paths.add_shape.Given as goal

-- the parts so far are added
abbrev pub invariant-loop-at : goal.invariant-loop-at
invariant-loop-at l = l.steps.items ≡ fold (with_line_of_part l.view) l.initial.steps.items (take l.at (parts_of l.shape))
