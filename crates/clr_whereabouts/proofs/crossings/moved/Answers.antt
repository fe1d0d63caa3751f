use Rattle.std.proofs.Common.{ℤ, SFits, ◌∙◌, subst, sym}
use Rattle.std.specs.Int.{w128}
use Rattle.clr_segments.proofs.Words64.{word_value}
use Rattle.clr_phrases.proofs.MoveLemmas.{sum_value}
use Rattle.clr_whereabouts.proofs.ReachLemmas.{reach_fits_128, sum_taken}
use Rattle.clr_whereabouts.proofs.crossings.moved.Goals as goal

pub returns-in-Some : goal.returns-in-Some
returns-in-Some c x small e =
    let sum_is = c.in-Some.ensures.1 ∙ sum_value c.args.from c.args.shift x c.from.result c.requires c.ranges.shift e c.from.ensures in
    sum_taken c.try_from.result c.in-Some.sum x (word_value c.args.from) c.unwrap_or.result small sum_is c.try_from.ensures c.unwrap_or.ensures

pub returns-in-None : goal.returns-in-None
returns-in-None c x small e =
    let sum_is = sum_value c.args.from c.args.shift x c.from.result c.requires c.ranges.shift e c.from.ensures in
    absurd (c.in-None.ensures (subst (λ (z : ℤ). SFits w128 z) (sym sum_is) (reach_fits_128 x small)))
