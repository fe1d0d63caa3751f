use Rattle.std.proofs.Common.{arith, to_z-of_z}
use Rattle.std.proofs.lemmas.Int.{ints}
use Rattle.clr_plan_causes.proofs.near_places.place_within.Goals as goal

pub returns : goal.returns
returns c touch =
    let p = touch.0 in
    let one = touch.1 in
    let two = touch.2 in
    grind (arith, to_z-of_z, c.number_within.ensures p.x, c.number_within-2.ensures p.y, c.box_of-one.ensures.value, c.box_of-two.ensures.value)
