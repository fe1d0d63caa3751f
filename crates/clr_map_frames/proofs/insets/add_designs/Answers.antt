use Rattle.clr_map_frames.proofs.InsetLemmas.{and_then}
use Rattle.clr_map_frames.proofs.insets.add_designs.Goals as goal

pub loop-at-preserved : goal.loop-at-preserved
loop-at-preserved c =
    and_then c.args.view.now.frame c.args.sketch.now.elements.items c.loop-at.sketch.elements.items c.add_design.new.sketch.elements.items
    c.loop-at.invariant c.in_ok-add_design.ensures
