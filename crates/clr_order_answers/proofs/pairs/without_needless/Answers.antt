use Rattle.std.proofs.lemmas.List.{drop_all}
use Rattle.clr_order_answers.proofs.Choices.{all_kept, none_kept_yet, one_more_kept}
use Rattle.clr_order_answers.proofs.pairs.without_needless.Goals as goal

pub loop-at-init : goal.loop-at-init
loop-at-init c = none_kept_yet c.args.needs.now c.args.pairs.now c.new-kept.result.items c.new-kept.ensures.items c.requires

pub loop-at-preserved : goal.loop-at-preserved
loop-at-preserved c = one_more_kept c.args.needs.now c.args.pairs.now c.loop-at.at c.loop-at-test.true c.loop-at.kept.items c.keep_needed.new.kept.items
    c.loop-at.invariant c.in_ok-keep_needed.ensures

pub returns : goal.returns
returns c = all_kept c.args.needs.now c.args.pairs.now c.loop-at.at c.loop-at.kept.items
    (drop_all c.loop-at.at c.args.pairs.now c.loop-at-test.false) c.loop-at.invariant
