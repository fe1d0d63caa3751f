use Rattle.std.proofs.Common.{subst}
use Rattle.std.proofs.lemmas.List.{take_all}
use Rattle.clr_order_answers.specs.Renumbering.{StandFor}
use Rattle.clr_order_answers.proofs.Numbering.{no_places_yet, one_placed}
use Rattle.clr_order_answers.proofs.renumbering.places_of.Goals as goal

pub loop-member-init : goal.loop-member-init
loop-member-init c = no_places_yet c.args.list.now c.args.members.now c.new-places.result.items c.new-places.ensures.items

pub loop-member-preserved : goal.loop-member-preserved
loop-member-preserved c = one_placed c.args.list.now c.args.members.now c.loop-member.member-index c.loop-member.places.items
    c.place_of-place.result c.loop-member-test.true c.place_of-place.ensures c.loop-member.invariant c.push.new.self.items c.in_ok-push.ensures.items

pub returns : goal.returns
returns c = subst (StandFor c.args.list.now c.loop-member.places.items)
    (take_all c.loop-member.member-index c.args.members.now c.loop-member-test.false) c.loop-member.invariant
