use Rattle.std.proofs.Common.{◌∙◌, arith}
use Rattle.std.proofs.lemmas.Int.{ints}
use Rattle.clr_segments.specs.Axis.{greater_low, lesser_high}
use Rattle.clr_segments.proofs.AxisLemmas.{ranges_apart, ranges_once, ranges_overlap}
use Rattle.clr_segments.proofs.Words64.{four_words}
use Rattle.clr_segments.proofs.axis.meet_on_axis.Goals as goal

pub returns-then-start-end : goal.returns-then-start-end
returns-then-start-end c =
    let a = c.args in
    let r = c.ranges in
    let start = c.common_start-start.ensures ∙ four_words greater_low a.p a.q a.r a.u r.p r.q r.r r.u in
    let end = c.common_end-end.ensures ∙ four_words lesser_high a.p a.q a.r a.u r.p r.q r.r r.u in
    ranges_overlap a.p a.q a.r a.u c.requires.first_ends c.requires.second_ends (rw (← start, ← end) (omega (arith, ints)))

pub returns-then-start-end-2 : goal.returns-then-start-end-2
returns-then-start-end-2 c =
    let a = c.args in
    let r = c.ranges in
    let start = c.common_start-start.ensures ∙ four_words greater_low a.p a.q a.r a.u r.p r.q r.r r.u in
    let end = c.common_end-end.ensures ∙ four_words lesser_high a.p a.q a.r a.u r.p r.q r.r r.u in
    ranges_once a.p a.q a.r a.u c.requires.first_ends c.requires.second_ends (rw (← start, ← end) (omega (arith, ints)))

pub returns-else-start-end-2 : goal.returns-else-start-end-2
returns-else-start-end-2 c =
    let a = c.args in
    let r = c.ranges in
    let start = c.common_start-start.ensures ∙ four_words greater_low a.p a.q a.r a.u r.p r.q r.r r.u in
    let end = c.common_end-end.ensures ∙ four_words lesser_high a.p a.q a.r a.u r.p r.q r.r r.u in
    ranges_apart a.p a.q a.r a.u (rw (← start, ← end) (omega (arith, ints)))
