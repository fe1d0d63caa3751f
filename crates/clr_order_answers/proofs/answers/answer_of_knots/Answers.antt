use Rattle.std.proofs.Common.{subst}
use Rattle.clr_order_knots.specs.Knots.{IsKnotOf}
use Rattle.clr_order_knots.specs.Members.{needs_at}
use Rattle.clr_order_knots.proofs.Gathering.{knot_of_part}
use Rattle.clr_order_answers.specs.Searching.{IsFoundIn, PutsKnot}
use Rattle.clr_order_answers.proofs.KnotOrders.{none_of_all, ordered_more, tight_knot}
use Rattle.clr_order_answers.proofs.answers.answer_of_knots.Goals as goal

pub returns-in-NoneWorks : goal.returns-in-NoneWorks
returns-in-NoneWorks c =
    let needs = c.args.needs.now in
    let count = c.args.count in
    let left = needs_at needs c.args.peeled.left.items in
    let knot = c.in_ok-knot.knot in
    let old = c.loop-peeled.peeled in
    let is = subst (λ ps. IsKnotOf needs count ps knot) c.as_slice.ensures.value c.in_ok-knot.ensures in
    let none = subst (IsFoundIn needs count knot) c.in-NoneWorks.is c.in_ok-order.ensures in
    (tight_knot needs count left old c.loop-peeled.invariant knot is c.requires.within none, none_of_all needs count left old c.loop-peeled.invariant knot is none)

pub returns-in-TooMany : goal.returns-in-TooMany
returns-in-TooMany c =
    let needs = c.args.needs.now in
    let count = c.args.count in
    let left = needs_at needs c.args.peeled.left.items in
    let knot = c.in_ok-knot.knot in
    let old = c.loop-peeled.peeled in
    let is = subst (λ ps. IsKnotOf needs count ps knot) c.as_slice.ensures.value c.in_ok-knot.ensures in (
      knot_of_part left (needs_at needs old.left.items) c.loop-peeled.invariant.part knot.members.items is.is_knot,
      subst (IsFoundIn needs count knot) c.in-TooMany.is c.in_ok-order.ensures,
    )

pub loop-peeled-preserved : goal.loop-peeled-preserved
loop-peeled-preserved c =
    let needs = c.args.needs.now in
    let count = c.args.count in
    let left = needs_at needs c.args.peeled.left.items in
    let knot = c.in_ok-knot.knot in
    let old = c.loop-peeled.peeled in
    let is = subst (λ ps. IsKnotOf needs count ps knot) c.as_slice.ensures.value c.in_ok-knot.ensures in
    let found = subst (IsFoundIn needs count knot) c.in-Found.is c.in_ok-order.ensures in
    ordered_more needs count left old c.loop-peeled.invariant knot is c.in-Found.order.items c.put_knot.new.peeled found
    (subst (λ xs. PutsKnot xs knot.outside.items old c.put_knot.new.peeled) c.as_slice-in-Found.ensures.value c.in_ok-put_knot-in-Found.ensures)
