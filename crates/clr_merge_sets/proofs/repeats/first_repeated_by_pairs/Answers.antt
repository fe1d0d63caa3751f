use Rattle.std.proofs.Common.{◌∙◌, arith, below_more, sym}
use Rattle.clr_merge_sets.proofs.RepeatLemmas.{first_is, none_is}
use Rattle.clr_merge_sets.proofs.repeats.first_repeated_by_pairs.Goals as goal

pub loop-position-init : goal.loop-position-init
loop-position-init g c = λ k less. absurd (omega (arith, less))

pub returns-then-stands_earlier : goal.returns-then-stands_earlier
returns-then-stands_earlier g c = first_is (g.N.NameList.names c.args.names.now) c.loop-position.position (omega arith) c.loop-position.invariant
    (sym c.stands_earlier.ensures ∙ c.if-stands_earlier.true)

pub loop-position-preserved : goal.loop-position-preserved
loop-position-preserved g c = below_more _ _ c.loop-position.invariant (sym c.stands_earlier.ensures ∙ c.if-stands_earlier.false)

pub returns : goal.returns
returns g c = none_is (g.N.NameList.names c.args.names.now) c.loop-position.position (omega arith) c.loop-position.invariant
