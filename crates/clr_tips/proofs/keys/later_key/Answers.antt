use Rattle.std.proofs.Common.{◌≡◌, ◌∙◌, ◌+◌, ap, arith, to_z-of_z, unsigned_abs}
use Rattle.clr_tips.proofs.KeyLemmas.{none_within, told_within}
use Rattle.clr_tips.proofs.keys.later_key.Goals as goal

pub returns-then-later : goal.returns-then-later
returns-then-later c =
    let size : c.from.result ≡ unsigned_abs c.args.key = c.from.ensures ∙ c.unsigned_abs.ensures.value ∙ ap unsigned_abs (to_z-of_z c.ranges.key) in
    told_within (unsigned_abs c.args.key + c.args.count) (c.from.result + c.args.count) (omega (arith, size)) c.if-later.true

pub returns-else-later : goal.returns-else-later
returns-else-later c =
    let size : c.from.result ≡ unsigned_abs c.args.key = c.from.ensures ∙ c.unsigned_abs.ensures.value ∙ ap unsigned_abs (to_z-of_z c.ranges.key) in
    none_within (unsigned_abs c.args.key + c.args.count) (c.from.result + c.args.count) (omega (arith, size)) (omega (arith, c.if-later.false))
