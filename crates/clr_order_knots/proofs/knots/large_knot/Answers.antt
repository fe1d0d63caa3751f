use Rattle.std.proofs.Common.{◌≡◌, ◌∙◌, ◌<◌, ◌≤◌, arith, length, subst, sym}
use Rattle.clr_order_search.specs.declared.limits.TheConstants.{MOST_SEARCHED}
use Rattle.clr_order_knots.specs.Knots.{IsKnotOf}
use Rattle.clr_order_knots.specs.Members.{ArePlaces}
use Rattle.clr_order_knots.proofs.Gathering.{IsSmallSoFar, all_small, is_large, none_small_yet, one_small}
use Rattle.clr_order_knots.proofs.Lists.{above_of_test, empty_of_length, zero_of_test}
use Rattle.clr_order_knots.proofs.knots.large_knot.Goals as goal

pub loop-alloc-init : goal.loop-alloc-init
loop-alloc-init c = subst (IsSmallSoFar c.args.needs.now c.args.left.now) (sym c.in_ok-rest.ensures.items)
    (none_small_yet c.args.needs.now c.args.count c.args.left.now c.requires.places)

pub first_knot-requires : goal.first_knot-requires
first_knot-requires c = record {
  within = c.requires.within;
  places = subst (ArePlaces c.args.needs.now) (sym c.as_slice.ensures.value) c.loop-alloc.invariant.places;
  some = subst (λ n. 0 < n) (sym c.as_slice.ensures.len) (above_of_test _ (sym c.is_empty.ensures ∙ c.loop-alloc-test.true));
}

pub returns-then-len : goal.returns-then-len
returns-then-len c =
    let long : MOST_SEARCHED < length c.in_ok-knot.knot.members.items = omega (arith, c.in_ok-knot.knot.members.ok.0) in
    is_large c.args.needs.now c.args.count c.args.left.now c.loop-alloc.rest.items c.in_ok-knot.knot c.loop-alloc.invariant
    (subst (λ ps. IsKnotOf c.args.needs.now c.args.count ps c.in_ok-knot.knot) c.as_slice.ensures.value c.in_ok-knot.ensures) long

pub loop-alloc-preserved : goal.loop-alloc-preserved
loop-alloc-preserved c =
    let few : length c.in_ok-knot.knot.members.items ≤ MOST_SEARCHED = omega (arith, c.in_ok-knot.knot.members.ok.0) in
    one_small c.args.needs.now c.args.count c.args.left.now c.loop-alloc.rest.items c.in_ok-knot.knot c.loop-alloc.invariant
    (subst (λ ps. IsKnotOf c.args.needs.now c.args.count ps c.in_ok-knot.knot) c.as_slice.ensures.value c.in_ok-knot.ensures) few

pub loop-alloc-smaller : goal.loop-alloc-smaller
loop-alloc-smaller c = (subst (λ ps. IsKnotOf c.args.needs.now c.args.count ps c.in_ok-knot.knot) c.as_slice.ensures.value c.in_ok-knot.ensures).fewer

pub returns : goal.returns
returns c =
    let none = zero_of_test _ (sym c.is_empty.ensures ∙ c.loop-alloc-test.false) in
    all_small c.args.needs.now c.args.count c.args.left.now c.loop-alloc.rest.items
    (empty_of_length c.loop-alloc.rest.items (omega (arith, none, c.loop-alloc.rest.ok.0))) c.loop-alloc.invariant
