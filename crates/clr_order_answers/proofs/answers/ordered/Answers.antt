use Rattle.std.proofs.Common.{◌≡◌, subst, sym, true}
use Rattle.clr_order_search.specs.OpenNeeds.{has}
use Rattle.clr_order_knots.specs.Peeling.{AreHelpedInTime, IsFilled}
use Rattle.clr_order_knots.proofs.Lists.{has_left, has_right}
use Rattle.clr_order_answers.specs.Pairs.{ArePairsFor}
use Rattle.clr_order_answers.proofs.KnotOrders.{all_helped_in_time, order_works}
use Rattle.clr_order_answers.proofs.answers.ordered.Goals as goal

pub whole_order-requires-clause-first : goal.whole_order-requires-clause-first
whole_order-requires-clause-first c = λ m h. c.requires.ends.below m (has_left c.args.peeled.now.firsts.items c.args.peeled.now.lasts.items m
    (subst (λ xs. has xs m ≡ true) c.as_slice.ensures.value h))

pub whole_order-requires-clause-last : goal.whole_order-requires-clause-last
whole_order-requires-clause-last c = λ m h. c.requires.ends.below m (has_right c.args.peeled.now.firsts.items c.args.peeled.now.lasts.items m
    (subst (λ xs. has xs m ≡ true) c.as_slice-2.ensures.value h))

pub pairs_of-requires-clause-helped : goal.pairs_of-requires-clause-helped
pairs_of-requires-clause-helped c =
    let needs = c.args.needs.now in
    let peeled = c.args.peeled.now in
    let order = c.in_ok-order.order.items in
    let filled = subst (λ fs. IsFilled c.args.count fs peeled.lasts.items order) c.as_slice.ensures.value
    (subst (λ ls. IsFilled c.args.count c.as_slice.result.now ls order) c.as_slice-2.ensures.value c.in_ok-order.ensures) in
    subst (λ xs. AreHelpedInTime xs needs) (sym c.as_slice-3.ensures.value)
    (all_helped_in_time needs c.args.count peeled c.requires.ends c.requires.none order filled)

pub returns : goal.returns
returns c =
    let needs = c.args.needs.now in
    let peeled = c.args.peeled.now in
    let order = c.in_ok-order.order.items in
    let filled = subst (λ fs. IsFilled c.args.count fs peeled.lasts.items order) c.as_slice.ensures.value
    (subst (λ ls. IsFilled c.args.count c.as_slice.result.now ls order) c.as_slice-2.ensures.value c.in_ok-order.ensures) in (
      order_works needs c.args.count peeled c.requires.ends c.requires.none order filled,
      subst (λ xs. ArePairsFor needs xs c.in_ok-pairs.pairs.items) c.as_slice-3.ensures.value c.in_ok-pairs.ensures,
    )
