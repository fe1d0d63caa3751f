use Rattle.std.proofs.Common.{◌∙◌, ap, to_z-of_z}
use Rattle.clr_segments.proofs.Words64.{coordinate_fits, word_value}
use Rattle.clr_phrases.proofs.MoveLemmas.{is_divisor, quotient_fits, quotient_is, shift_kept}
use Rattle.clr_phrases.proofs.crossings.coordinate_at.Goals as goal

pub returns-in-Some : goal.returns-in-Some
returns-in-Some c x at_x =
    let a = c.args in
    let from_in = c.requires.from_in in
    let quotient_is_way = quotient_is a.from a.to a.numerator a.denominator x c.way.result from_in c.requires.to_in c.way.ensures.bound c.requires.numerator_in
    c.ranges.denominator c.way.ensures.value at_x in
    let shift_is = c.in-Some.ensures.1 ∙ quotient_is_way in
    ap word_value (c.moved.ensures x at_x.in_range (shift_kept a.from x c.in-Some.shift from_in at_x.in_range shift_is)) ∙ to_z-of_z (coordinate_fits x at_x.in_range)

pub returns-in-None : goal.returns-in-None
returns-in-None c x at_x =
    let a = c.args in
    let from_in = c.requires.from_in in
    let quotient_is_way = quotient_is a.from a.to a.numerator a.denominator x c.way.result from_in c.requires.to_in c.way.ensures.bound c.requires.numerator_in
    c.ranges.denominator c.way.ensures.value at_x in
    absurd (c.in-None.ensures (is_divisor a.denominator c.ranges.denominator at_x.divides, quotient_fits a.from x _ from_in at_x.in_range quotient_is_way))
