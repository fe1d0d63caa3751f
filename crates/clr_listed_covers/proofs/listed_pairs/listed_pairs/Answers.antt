use Rattle.std.proofs.Common.{◌∙◌, subst, sym}
use Rattle.clr_order_knots.specs.Peeling.{AreHelpedInTime}
use Rattle.clr_order_answers.specs.Pairs.{ArePairsFor}
use Rattle.clr_listed_covers.proofs.LateLaws.{all_apart, helped_in_time}
use Rattle.clr_listed_covers.proofs.listed_pairs.listed_pairs.Goals as goal

pub pairs_of-requires-clause-helped : goal.pairs_of-requires-clause-helped
pairs_of-requires-clause-helped c =
    subst (λ order. AreHelpedInTime order c.args.needs.now) (sym (c.as_slice.ensures.value ∙ c.in_ok-order.ensures))
    (helped_in_time c.args.needs.now c.args.count c.requires.within c.requires.helped)

pub pairs_of-requires-clause-apart : goal.pairs_of-requires-clause-apart
pairs_of-requires-clause-apart c = all_apart c.args.needs.now c.args.count c.requires.within

pub returns : goal.returns
returns c =
    subst (λ order. ArePairsFor c.args.needs.now order c.in_ok-pairs.pairs.items) (c.as_slice.ensures.value ∙ c.in_ok-order.ensures) c.in_ok-pairs.ensures
