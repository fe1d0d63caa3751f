use Rattle.std.proofs.Common.{map}
use Rattle.clr_choices.proofs.Holding.{found_more, none_found}
use Rattle.clr_choices.proofs.held.positions_of.Goals as goal

pub loop-at-init : goal.loop-at-init
loop-at-init c = none_found c.args.names.now (map (λ member. member.now) c.args.members.now) c.new-positions.result.items c.new-positions.ensures.items

pub loop-at-preserved : goal.loop-at-preserved
loop-at-preserved c =
    found_more c.args.names.now (map (λ member. member.now) c.args.members.now) c.loop-at.at c.index-names-at.result c.loop-at.positions.items
    c.add_if_member.new.positions.items c.loop-at-test.true c.index-names-at.is c.in_ok-add_if_member.ensures c.loop-at.invariant
