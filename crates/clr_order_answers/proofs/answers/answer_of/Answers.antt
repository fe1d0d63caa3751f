use Rattle.std.proofs.Common.{◌≡◌, ◌∙◌, ◌<◌, [], arith, length, sym}
use Rattle.clr_order_knots.proofs.Lists.{above_of_test, empty_of_length, zero_of_test}
use Rattle.clr_order_answers.proofs.KnotOrders.{helped_of, none_waiting, waiting_answer, whole_answer}
use Rattle.clr_order_answers.proofs.answers.answer_of.Goals as goal

pub returns-then-not-is_empty : goal.returns-then-not-is_empty
returns-then-not-is_empty c =
    let above = above_of_test _ (sym c.is_empty.ensures ∙ c.if-not-is_empty.true) in
    let some : 0 < length c.in_ok-waiting.waiting.items = omega (arith, above, c.in_ok-waiting.waiting.ok.0) in
    waiting_answer c.args.needs.now c.args.count c.in_ok-waiting.waiting.items c.in_default.ensures c.in_ok-waiting.ensures some

pub answer_of_left-requires-clause-helped : goal.answer_of_left-requires-clause-helped
answer_of_left-requires-clause-helped c = helped_of c.args.needs.now c.in_default.ensures

pub returns : goal.returns
returns c =
    let zero = zero_of_test _ (sym c.is_empty.ensures ∙ c.if-not-is_empty.false) in
    let none : c.in_ok-waiting.waiting.items ≡ [] = empty_of_length c.in_ok-waiting.waiting.items (omega (arith, zero, c.in_ok-waiting.waiting.ok.0)) in
    whole_answer c.args.needs.now c.args.count c.in_default.ensures (none_waiting c.args.needs.now c.args.count c.in_ok-waiting.waiting.items
    c.in_ok-waiting.ensures none) c.in_ok-answer.answer c.in_ok-answer.ensures
