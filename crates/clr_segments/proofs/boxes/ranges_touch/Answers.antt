use Rattle.std.proofs.Common.{◌∙◌, arith, sym}
use Rattle.std.proofs.lemmas.Int.{ints}
use Rattle.std.specs.Int.{int_min, int_max}
use Rattle.clr_segments.proofs.BoxLemmas.{ranges_touch_by}
use Rattle.clr_segments.proofs.Words64.{two_words}
use Rattle.clr_segments.proofs.boxes.ranges_touch.Goals as goal

pub returns : goal.returns
returns c =
    let a = c.args in
    let r = c.ranges in
    ranges_touch_by a.low a.high a.other_low a.other_high c.max.result c.min.result _
    (c.max.ensures.value ∙ two_words int_max a.low a.other_low r.low r.other_low)
    (c.min.ensures.value ∙ two_words int_min a.high a.other_high r.high r.other_high)
    (λ t. omega (arith, ints), λ h. sym (omega (arith, ints)))
