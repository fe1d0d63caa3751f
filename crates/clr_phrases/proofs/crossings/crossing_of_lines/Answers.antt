use Rattle.clr_phrases.specs.Crossings.{product_of_ways}
use Rattle.clr_phrases.proofs.CrossingLemmas.{crossing_x, crossing_y, in_range_of_part}
use Rattle.clr_phrases.proofs.MoveLemmas.{coordinate_words, placed_words}
use Rattle.clr_phrases.proofs.crossings.crossing_of_lines.Goals as goal

pub returns : goal.returns
returns c p first second slanted =
    let a = c.args.first.0 in
    let b = c.args.first.1 in
    let g = c.args.second.0 in
    let d = c.args.second.1 in
    let in_a = c.requires.a_in in
    let in_b = c.requires.b_in in
    let over = c.product_of_ways-numerator in
    let under = c.product_of_ways-denominator in
    let in_p = in_range_of_part p a b in_a in_b first in
    let n = product_of_ways a g g d in
    let m = product_of_ways a b g d in
    placed_words c.coordinate_at.result c.coordinate_at-2.result p in_p
    (c.coordinate_at.ensures p.x (coordinate_words a.x b.x n m p.x over.result under.result in_a.in_x in_b.in_x over.ensures.bound under.ensures.bound
    over.ensures.value under.ensures.value (crossing_x p a b g d in_p first second slanted)))
    (c.coordinate_at-2.ensures p.y (coordinate_words a.y b.y n m p.y over.result under.result in_a.in_y in_b.in_y over.ensures.bound under.ensures.bound
    over.ensures.value under.ensures.value (crossing_y p a b g d in_p first second slanted)))
