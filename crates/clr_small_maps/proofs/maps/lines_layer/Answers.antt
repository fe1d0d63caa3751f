use Rattle.std.proofs.Common.{[], List, ap, refl, subst, sym}
use Rattle.clr_svg.specs.declared.elements.Element.{Element}
use Rattle.clr_map_marks.specs.LineMarks.{DrawsLineMarks}
use Rattle.clr_small_maps.proofs.maps.lines_layer.Goals as goal

pub returns : goal.returns
returns c =
    let scene = c.args.scene.now in
    let drawn = subst (λ (old : List Element). DrawsLineMarks scene old c.add_line_marks.new.sketch.elements.items) c.new-sketch.ensures
    c.in_ok-add_line_marks.ensures in
    (scene, refl, subst (λ (new : List Element). DrawsLineMarks scene [] new) (sym (ap (λ layer. layer.elements.items) c.into_layer_within.ensures)) drawn)
