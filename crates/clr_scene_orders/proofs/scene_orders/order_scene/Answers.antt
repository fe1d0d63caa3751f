use Rattle.std.proofs.Common.{length, subst, sym}
use Rattle.clr_foot.specs.Scenes.{model_of}
use Rattle.clr_order_answers.specs.Answers.{IsAnswer, IsCause, IsLargeKnotLeft}
use Rattle.clr_order_knots.specs.OpenNeeds.{AreWithin}
use Rattle.clr_scene_orders.proofs.Answers.{are_helped, are_within, each_list_breaks, final_order, members_counted, order_by_pairs, within_needs, within_sides}
use Rattle.clr_scene_orders.proofs.scene_orders.order_scene.Goals as goal

pub answer_of-requires : goal.answer_of-requires
answer_of-requires g c =
    let m = model_of g.V.RowView.content c.args.scene.now in
    subst (λ k. AreWithin c.as_slice.result.now k) (sym c.len.ensures.members)
    (subst (λ ss. AreWithin ss (length m.sets)) (sym c.as_slice.ensures.value)
    (are_within m.rules m.root m.sets c.in_ok-found.found c.in_ok-found.ensures.needs))

pub returns-in-Order : goal.returns-in-Order
returns-in-Order g c =
    let m = model_of g.V.RowView.content c.args.scene.now in
    let found = c.in_ok-found.found in
    let are = c.in_ok-found.ensures.needs in
    let told = subst (λ k. IsAnswer found.sides.items k c.in_ok-answer.answer) c.len.ensures.members
    (subst (λ ss. IsAnswer ss c.len.result c.in_ok-answer.answer) c.as_slice.ensures.value c.in_ok-answer.ensures) in
    let a = subst (IsAnswer found.sides.items (length m.sets)) c.in-Order.is told in (
      are_helped m.rules m.root m.sets found are a.0,
      (found, are, a.1.0, a.1.1),
      order_by_pairs m.rules m.root m.sets found are c.in_ok-found.ensures.touched c.in-Order.order.items c.in-Order.pairs.items a.2.is_order a.3,
    )

pub final_at-requires-clause-needs : goal.final_at-requires-clause-needs
final_at-requires-clause-needs g c =
    let m = model_of g.V.RowView.content c.args.scene.now in
    let found = c.in_ok-found.found in
    let told = subst (λ ss. IsAnswer ss c.len.result c.in_ok-answer.answer) c.as_slice.ensures.value c.in_ok-answer.ensures in
    within_needs m.rules m.root m.sets found c.in_ok-found.ensures.needs c.in-Final.at
    (subst (IsAnswer found.sides.items c.len.result) c.in-Final.is told)

pub final_at-requires-clause-sides : goal.final_at-requires-clause-sides
final_at-requires-clause-sides g c =
    let m = model_of g.V.RowView.content c.args.scene.now in
    let found = c.in_ok-found.found in
    let told = subst (λ ss. IsAnswer ss c.len.result c.in_ok-answer.answer) c.as_slice.ensures.value c.in_ok-answer.ensures in
    within_sides m.rules m.root m.sets found c.in_ok-found.ensures.needs c.in-Final.at
    (subst (IsAnswer found.sides.items c.len.result) c.in-Final.is told)

pub returns-in-Final : goal.returns-in-Final
returns-in-Final g c =
    let m = model_of g.V.RowView.content c.args.scene.now in
    let found = c.in_ok-found.found in
    let told = subst (λ ss. IsAnswer ss c.len.result c.in_ok-answer.answer) c.as_slice.ensures.value c.in_ok-answer.ensures in
    final_order m.rules m.root m.sets found c.in_ok-found.ensures.needs c.in-Final.at c.in_ok-order-in-Final.order
    (subst (IsAnswer found.sides.items c.len.result) c.in-Final.is told) c.in_ok-order-in-Final.ensures

pub returns-in-Stuck : goal.returns-in-Stuck
returns-in-Stuck g c =
    let m = model_of g.V.RowView.content c.args.scene.now in
    let found = c.in_ok-found.found in
    let are = c.in_ok-found.ensures.needs in
    let told = subst (λ k. IsAnswer found.sides.items k c.in_ok-answer.answer) c.len.ensures.members
    (subst (λ ss. IsAnswer ss c.len.result c.in_ok-answer.answer) c.as_slice.ensures.value c.in_ok-answer.ensures) in
    let a = subst (IsAnswer found.sides.items (length m.sets)) c.in-Stuck.is told in (
      are_helped m.rules m.root m.sets found are a.0,
      (found, are, subst (λ k. IsCause found.sides.items k c.in-Stuck.members.items) (sym (members_counted m.rules m.root m.sets)) a.1),
      each_list_breaks m.rules m.root m.sets found are a.2,
    )

pub returns : goal.returns
returns g c =
    let m = model_of g.V.RowView.content c.args.scene.now in
    let found = c.in_ok-found.found in
    let are = c.in_ok-found.ensures.needs in
    let told = subst (λ k. IsAnswer found.sides.items k c.in_ok-answer.answer) c.len.ensures.members
    (subst (λ ss. IsAnswer ss c.len.result c.in_ok-answer.answer) c.as_slice.ensures.value c.in_ok-answer.ensures) in
    let a = subst (IsAnswer found.sides.items (length m.sets)) c.in-TooMany.is told in (
      are_helped m.rules m.root m.sets found are a.0,
      (found, are, subst (λ k. IsLargeKnotLeft found.sides.items k c.in-TooMany.members.items) (sym (members_counted m.rules m.root m.sets)) a.1),
    )
