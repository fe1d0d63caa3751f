use Rattle.std.proofs.Common.{map}
use Rattle.clr_groups.proofs.Places.{none_placed, one_placed, positions}
use Rattle.clr_groups.proofs.group_needs.places_of.Goals as goal

pub loop-member-init : goal.loop-member-init
loop-member-init c = none_placed (map positions c.args.groups.now) c.in_ok-places.places.items c.in_ok-places.ensures.items

pub loop-member-preserved : goal.loop-member-preserved
loop-member-preserved c = one_placed (map positions c.args.groups.now) c.loop-member.member c.place_of.result c.loop-member.places.items
    c.push.new.self.items c.in_ok-push.ensures.items c.place_of.ensures c.loop-member.invariant
