use Rattle.clr_segments.proofs.PointLemmas.{tested_by_box, refused_by_turn}
use Rattle.clr_segments.proofs.Words64.{so, not_so}
use Rattle.clr_segments.proofs.points.lies_on.Goals as goal

pub returns-then-is_on_line : goal.returns-then-is_on_line
returns-then-is_on_line c =
    let a = c.args in
    tested_by_box a.p a.a a.b c.box_of.result c.is_in_box.result c.requires.ends (so _ c.if-is_on_line.true c.is_on_line.ensures) c.box_of.ensures.value
    c.is_in_box.ensures

pub returns-else-is_on_line : goal.returns-else-is_on_line
returns-else-is_on_line c =
    let none = not_so _ c.if-is_on_line.false c.is_on_line.ensures in
    refused_by_turn c.args.p c.args.a c.args.b _ none (λ t. none (c.is_on_line.ensures.0 t))
