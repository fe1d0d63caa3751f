use Rattle.std.proofs.Common.{MatchOption, subst}
use Rattle.clr_order_knots.specs.Knots.{AreKnotsSmall, IsLargeKnot}
use Rattle.clr_order_knots.specs.Members.{needs_at}
use Rattle.clr_order_answers.proofs.KnotOrders.{left_answer}
use Rattle.clr_order_answers.proofs.answers.answer_of_left.Goals as goal

pub returns : goal.returns
returns c =
    let needs = c.args.needs.now in
    let places = c.in_ok-peeled.peeled.left.items in
    let told = subst (λ f. MatchOption f (AreKnotsSmall (needs_at needs c.as_slice.result.now)) (λ members. IsLargeKnot (needs_at needs c.as_slice.result.now) members.items))
    c.in_default.is c.in_ok-members.ensures in
    left_answer needs c.args.count (needs_at needs places) c.in_ok-peeled.ensures.left
    (subst (λ ps. AreKnotsSmall (needs_at needs ps)) c.as_slice.ensures.value told) c.in_ok-answer.answer c.in_ok-answer.ensures
