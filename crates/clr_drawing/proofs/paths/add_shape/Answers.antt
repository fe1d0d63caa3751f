use Rattle.std.proofs.Common.{◌≡◌, ◌∙◌, ◌<◌, ap, arith, length}
use Rattle.clr_rows.specs.Parts.{parts_of}
use Rattle.clr_drawing.specs.Paths.{with_found}
use Rattle.clr_drawing.proofs.PathLemmas.{with_numbered}
use Rattle.clr_drawing.proofs.paths.add_shape.Goals as goal

pub loop-at-preserved : goal.loop-at-preserved
loop-at-preserved c =
    let less : c.loop-at.at < length (parts_of c.args.shape.now) = omega (arith, c.loop-at-test.true, c.parts-at-end.ensures) in
    c.in_ok-add_part.ensures
    ∙ ((λ i. with_found c.args.view.now (c.loop-at.invariant i) (c.part.ensures i))
    ∙ with_numbered c.args.view.now c.args.steps.now.items c.args.shape.now c.loop-at.at less)
