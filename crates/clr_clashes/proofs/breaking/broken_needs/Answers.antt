use Rattle.std.proofs.Common.{ap, get_or, map}
use Rattle.clr_foot.specs.Scenes.{model_of, setting_of}
use Rattle.clr_needs.proofs.BreakLaws.{touched_possible}
use Rattle.clr_needs.proofs.Reading.{read_of}
use Rattle.clr_needs.proofs.NeedOrder.{unread}
use Rattle.clr_clashes.specs.ListedClashes.{listed_clash_of}
use Rattle.clr_clashes.proofs.BrokenLists.{all_noted, none_yet, one_noted}
use Rattle.clr_clashes.proofs.breaking.broken_needs.Goals as goal

pub loop-need-init : goal.loop-need-init
loop-need-init g c = none_yet (setting_of (model_of g.V.RowView.content c.args.scene.now)) c.in_ok-needs.needs.items c.deref-need-items.result.now
    c.in_ok-needs.ensures c.deref-need-items.ensures.value
    (map listed_clash_of c.new-list.result.items) (ap (map listed_clash_of) c.new-list.ensures.items)

pub add_if_broken-requires-clause-possible : goal.add_if_broken-requires-clause-possible
add_if_broken-requires-clause-possible g c =
    let needs = c.in_ok-needs.needs.items in
    let read = c.deref-need-items.result.now in
    let k = c.loop-need.need-index in
    touched_possible (setting_of (model_of g.V.RowView.content c.args.scene.now)) (get_or read k unread) needs c.in_ok-needs.ensures
    (read_of read needs k unread c.deref-need-items.ensures.value c.loop-need-test.true)

pub loop-need-preserved : goal.loop-need-preserved
loop-need-preserved g c = one_noted (setting_of (model_of g.V.RowView.content c.args.scene.now)) c.in_ok-needs.needs.items c.deref-need-items.result.now
    c.in_ok-needs.ensures c.deref-need-items.ensures.value
    c.loop-need.need-index unread c.loop-need-test.true (map listed_clash_of c.loop-need.list.items) (map listed_clash_of c.add_if_broken.new.list.items)
    c.loop-need.invariant
    c.in_ok-add_if_broken.ensures

pub returns : goal.returns
returns g c = all_noted (setting_of (model_of g.V.RowView.content c.args.scene.now)) c.in_ok-needs.needs.items c.deref-need-items.result.now
    c.in_ok-needs.ensures c.deref-need-items.ensures.value
    c.loop-need.need-index (map listed_clash_of c.loop-need.list.items) c.loop-need-test.false c.loop-need.invariant
