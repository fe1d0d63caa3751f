use Rattle.std.proofs.Common.{get_or}
use Rattle.clr_foot.specs.Scenes.{model_of, setting_of}
use Rattle.clr_needs.proofs.BreakLaws.{touched_possible}
use Rattle.clr_needs.proofs.NeedOrder.{unread}
use Rattle.clr_needs.proofs.Reading.{read_of}
use Rattle.clr_open_needs.proofs.ListingLaws.{all_open, none_open_yet, one_noted}
use Rattle.clr_open_needs.proofs.listing.open_needs.Goals as goal

pub loop-need-init : goal.loop-need-init
loop-need-init g c = none_open_yet (setting_of (model_of g.V.RowView.content c.args.scene.now)) c.deref-need-items.result.now
    c.new.result.items c.new-2.result.items c.new.ensures.items c.new-2.ensures.items

pub note_need-requires-clause-possible : goal.note_need-requires-clause-possible
note_need-requires-clause-possible g c =
    let needs = c.in_ok-needs.needs.items in
    let read = c.deref-need-items.result.now in
    let k = c.loop-need.need-index in
    touched_possible (setting_of (model_of g.V.RowView.content c.args.scene.now)) (get_or read k unread) needs c.in_ok-needs.ensures
    (read_of read needs k unread c.deref-need-items.ensures.value c.loop-need-test.true)

pub loop-need-preserved : goal.loop-need-preserved
loop-need-preserved g c = one_noted (setting_of (model_of g.V.RowView.content c.args.scene.now)) c.in_ok-needs.needs.items c.deref-need-items.result.now
    c.in_ok-needs.ensures c.deref-need-items.ensures.value
    c.loop-need.need-index unread c.loop-need-test.true c.loop-need.found c.note_need.new.found
    c.loop-need.invariant
    c.in_ok-note_need.ensures

pub returns : goal.returns
returns g c = record {
  needs = all_open (setting_of (model_of g.V.RowView.content c.args.scene.now)) c.in_ok-needs.needs.items c.deref-need-items.result.now
      c.in_ok-needs.ensures c.deref-need-items.ensures.value
      c.loop-need.need-index c.loop-need.found c.loop-need-test.false c.loop-need.invariant;
  touched = (c.in_ok-needs.needs.items, c.in_ok-needs.ensures);
}
