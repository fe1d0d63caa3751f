use Rattle.std.proofs.Common.{◌∙◌, sym}
use Rattle.std.proofs.lemmas.Option.{slice_get-get_or}
use Rattle.clr_order_answers.proofs.Ends.{is_first, none_at_all, none_more}
use Rattle.clr_order_answers.proofs.pairs.first_of.Goals as goal

pub returns-then-is_one_of : goal.returns-then-is_one_of
returns-then-is_one_of c = is_first c.args.members.now c.args.order.now c.loop-at.at _
    (slice_get-get_or c.args.order.now c.loop-at.at 0 c.loop-at-test.true) (sym c.is_one_of.ensures ∙ c.if-is_one_of.true) c.loop-at.invariant

pub loop-at-preserved : goal.loop-at-preserved
loop-at-preserved c = none_more c.args.members.now c.args.order.now c.loop-at.at _
    (slice_get-get_or c.args.order.now c.loop-at.at 0 c.loop-at-test.true) (sym c.is_one_of.ensures ∙ c.if-is_one_of.false) c.loop-at.invariant

pub returns : goal.returns
returns c = none_at_all c.args.members.now c.args.order.now c.loop-at.at c.loop-at-test.false c.loop-at.invariant
