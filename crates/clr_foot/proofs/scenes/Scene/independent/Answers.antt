use Rattle.std.proofs.Common.{get_or, refl}
use Rattle.clr_foot.specs.Scenes.{setting_in}
use Rattle.clr_foot.proofs.InvolvedLaws.{all_apart, dependent_at, is_possible_at, one_apart_more}
use Rattle.clr_needs.proofs.NeedOrder.{unread}
use Rattle.clr_foot.proofs.scenes.Scene.independent.Goals as goal

pub involves-requires-clause-possible : goal.involves-requires-clause-possible
involves-requires-clause-possible g c =
    is_possible_at (setting_in g.V.RowView.content c.args.self.now) c.args.first c.args.second c.in_ok-needs.needs.items c.deref-need-items.result.now
    c.in_ok-needs.ensures c.deref-need-items.ensures.value
    c.loop-need.need-index unread c.loop-need-test.true

pub loop-need-preserved : goal.loop-need-preserved
loop-need-preserved g c =
    let read = c.deref-need-items.result.now in
    let k = c.loop-need.need-index in
    one_apart_more (setting_in g.V.RowView.content c.args.self.now) c.args.first c.args.second c.in_ok-needs.needs.items read c.in_ok-needs.ensures
    c.deref-need-items.ensures.value
    k unread (get_or read k unread) c.in_ok-involves.field-0 c.loop-need-test.true refl c.in_ok-involves.ensures c.if-branch.false c.loop-need.invariant

pub returns-then-branch : goal.returns-then-branch
returns-then-branch g c =
    let read = c.deref-need-items.result.now in
    let k = c.loop-need.need-index in
    dependent_at (setting_in g.V.RowView.content c.args.self.now) c.args.first c.args.second c.in_ok-needs.needs.items read c.in_ok-needs.ensures
    c.deref-need-items.ensures.value
    k unread (get_or read k unread) c.in_ok-involves.field-0 c.loop-need-test.true refl c.in_ok-involves.ensures c.if-branch.true

pub returns : goal.returns
returns g c =
    all_apart (setting_in g.V.RowView.content c.args.self.now) c.args.first c.args.second c.in_ok-needs.needs.items c.deref-need-items.result.now
    c.in_ok-needs.ensures c.deref-need-items.ensures.value
    c.loop-need.need-index c.loop-need-test.false c.loop-need.invariant
