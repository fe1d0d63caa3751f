use Rattle.std.proofs.Common.{get_or}
use Rattle.clr_needs.proofs.Reading.{read_in}
use Rattle.clr_groups.proofs.JoinedPairs.{unread_pair}
use Rattle.clr_groups.proofs.TouchedPairs.{all_added, group_need_exact, pair_added}
use Rattle.clr_groups.proofs.group_needs.touched_needs.Goals as goal

pub add_if_touched-requires : goal.add_if_touched-requires
add_if_touched-requires c = c.requires (get_or c.args.pairs.now c.loop-pair.pair-index unread_pair)
    (read_in c.args.pairs.now c.loop-pair.pair-index unread_pair c.loop-pair-test.true)

pub loop-pair-preserved : goal.loop-pair-preserved
loop-pair-preserved c = pair_added c.args.places.now c.args.pairs.now c.loop-pair.pair-index unread_pair _ _ _ c.loop-pair-test.true
    c.loop-pair.invariant c.in_ok-add_if_touched.ensures

pub put_in_order-requires : goal.put_in_order-requires
put_in_order-requires c = group_need_exact

pub returns : goal.returns
returns c = all_added c.args.places.now c.args.pairs.now c.loop-pair.pair-index _ _ c.loop-pair-test.false c.loop-pair.invariant
    c.put_in_order.ensures.ascending c.put_in_order.ensures.same
