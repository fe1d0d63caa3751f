use Rattle.clr_map_frames.proofs.InsetLemmas.{and_then}
use Rattle.clr_map_frames.proofs.insets.add_plan.Goals as goal

pub returns : goal.returns
returns c =
    let box = c.args.view.now.frame in
    let old = c.args.sketch.now.elements.items in
    let framed = c.add_part.new.sketch.elements.items in
    let lined = c.add_rows.new.sketch.elements.items in
    let designed = c.add_designs.new.sketch.elements.items in
    let windowed = c.add_window.new.sketch.elements.items in
    let new = c.add_caption.new.sketch.elements.items in
    and_then box old framed new c.in_ok-add_part.ensures
    (and_then box framed lined new c.in_ok-add_rows.ensures
    (and_then box lined designed new c.in_ok-add_designs.ensures
    (and_then box designed windowed new c.in_ok-add_window.ensures c.in_ok-add_caption.ensures)))
