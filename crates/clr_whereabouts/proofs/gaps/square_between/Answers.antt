use Rattle.clr_whereabouts.proofs.GapLemmas.{axis_is, squares_are}
use Rattle.clr_whereabouts.proofs.gaps.square_between.Goals as goal

pub returns : goal.returns
returns c =
    let p = c.args.p in
    let q = c.args.q in
    let in_p = c.requires.p_in in
    let in_q = c.requires.q_in in
    let x = c.distance_on_axis in
    let y = c.distance_on_axis-2 in
    squares_are p q c.squared.result c.squared-2.result x.result y.result c.squared.ensures.value c.squared-2.ensures.value
    (axis_is q.x p.x x.result in_q.in_x in_p.in_x x.ensures.value) (axis_is q.y p.y y.result in_q.in_y in_p.in_y y.ensures.value)
