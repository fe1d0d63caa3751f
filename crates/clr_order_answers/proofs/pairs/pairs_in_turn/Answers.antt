use Rattle.std.proofs.lemmas.List.{take_all}
use Rattle.clr_order_answers.proofs.Choices.{all_have_pairs, no_pairs_yet, one_more_pair}
use Rattle.clr_order_answers.proofs.pairs.pairs_in_turn.Goals as goal

pub loop-need-init : goal.loop-need-init
loop-need-init c = no_pairs_yet c.args.needs.now c.args.order.now c.new-pairs.result.items c.new-pairs.ensures.items

pub loop-need-preserved : goal.loop-need-preserved
loop-need-preserved c = one_more_pair c.args.needs.now c.args.order.now c.loop-need.need-index c.need-item.result c.loop-need-test.true c.need-item.is
    c.loop-need.pairs.items c.add_pair.new.pairs.items c.loop-need.invariant c.in_ok-add_pair.ensures

pub returns : goal.returns
returns c = all_have_pairs c.args.needs.now c.args.order.now c.loop-need.need-index c.loop-need.pairs.items
    (take_all c.loop-need.need-index c.args.needs.now c.loop-need-test.false) c.loop-need.invariant
