use Rattle.std.proofs.Common.{get_or}
use Rattle.clr_needs.proofs.Reading.{read_in}
use Rattle.clr_choices.proofs.Holding.{all_placed, none_placed, one_placed}
use Rattle.clr_choices.proofs.held.places_of.Goals as goal

pub loop-member-init : goal.loop-member-init
loop-member-init c = none_placed c.args.positions.now c.args.members.now c.in_ok-places.places.items c.in_ok-places.ensures.items

pub place_of-requires : goal.place_of-requires
place_of-requires c = c.requires (get_or c.args.members.now c.loop-member.member-index 0)
    (read_in c.args.members.now c.loop-member.member-index 0 c.loop-member-test.true)

pub loop-member-preserved : goal.loop-member-preserved
loop-member-preserved c =
    one_placed c.args.positions.now c.args.members.now c.loop-member.member-index 0 c.place_of.result c.loop-member.places.items c.push.new.self.items
    c.loop-member-test.true c.place_of.ensures.below c.place_of.ensures.stands c.in_ok-push.ensures.items c.loop-member.invariant

pub returns : goal.returns
returns c = all_placed c.args.positions.now c.args.members.now c.loop-member.member-index c.loop-member.places.items c.loop-member-test.false
    c.loop-member.invariant
