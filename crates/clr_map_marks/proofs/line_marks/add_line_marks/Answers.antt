use Rattle.std.proofs.Common.{ℕ, ◌<◌, length, arith, subst, sym}
use Rattle.std.specs.Prelude.{reverse}
use Rattle.std.proofs.lemmas.List.{get_or-reverse, length-reverse}
use Rattle.clr_map_marks.specs.LineMarks.{DrawsDesign}
use Rattle.clr_map_marks.proofs.EachLemmas.{each_more}
use Rattle.clr_map_marks.proofs.line_marks.add_line_marks.Goals as goal

pub loop-number-preserved : goal.loop-number-preserved
loop-number-preserved c =
    let xs = c.order-order.result.now in
    let number = c.loop-number.number in
    let now = c.loop-number.sketch.elements.items in
    let later = c.add_design.new.sketch.elements.items in
    let less : number < length xs = omega arith in
    let within : number < length (reverse xs) = rw (length-reverse xs) less in
    each_more (DrawsDesign c.args.scene.now) (reverse xs) number 0 c.args.sketch.now.elements.items now later within
    (subst (λ (at : ℕ). DrawsDesign c.args.scene.now at now later) (sym (get_or-reverse xs number 0 less)) c.in_ok-add_design.ensures)
    c.loop-number.invariant
