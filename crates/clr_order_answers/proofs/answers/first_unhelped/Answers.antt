use Rattle.clr_order_answers.proofs.Unhelped.{all_helped, helped_more, unhelped_here}
use Rattle.clr_order_answers.proofs.answers.first_unhelped.Goals as goal

pub returns-then-is_unhelped : goal.returns-then-is_unhelped
returns-then-is_unhelped c = unhelped_here c.args.needs.now c.loop-at.at c.index-needs-at.result c.loop-at-test.true c.index-needs-at.is
    c.is_unhelped.result c.is_unhelped.ensures c.loop-at.invariant c.if-is_unhelped.true

pub loop-at-preserved : goal.loop-at-preserved
loop-at-preserved c = helped_more c.args.needs.now c.loop-at.at c.index-needs-at.result c.loop-at-test.true c.index-needs-at.is
    c.is_unhelped.result c.is_unhelped.ensures c.loop-at.invariant c.if-is_unhelped.false

pub returns : goal.returns
returns c = all_helped c.args.needs.now c.loop-at.at c.loop-at-test.false c.loop-at.invariant
