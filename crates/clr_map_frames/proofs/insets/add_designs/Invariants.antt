use Rattle.clr_map_frames.specs.Insets.{DrawsWithin}
use Rattle.clr_map_frames.proofs.insets.add_designs.Given as goal

-- what is drawn so far is within the box
abbrev pub invariant-loop-at : goal.invariant-loop-at
invariant-loop-at l = DrawsWithin l.view.frame l.initial.sketch.elements.items l.sketch.elements.items
