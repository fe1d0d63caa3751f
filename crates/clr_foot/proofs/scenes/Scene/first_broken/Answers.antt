use Rattle.std.proofs.Common.{get_or, refl, true}
use Rattle.clr_foot.specs.Scenes.{setting_in}
use Rattle.clr_needs.proofs.BreakLaws.{kept_more}
use Rattle.clr_needs.proofs.Reading.{read_of}
use Rattle.clr_needs.proofs.NeedOrder.{unread}
use Rattle.clr_foot.proofs.LeastBroken.{first_is_least, listed_possible, none_is_broken}
use Rattle.clr_row_versions.proofs.Searches.{sets_of}
use Rattle.clr_foot.proofs.scenes.Scene.first_broken.Goals as goal

pub is_broken-requires-clause-possible : goal.is_broken-requires-clause-possible
is_broken-requires-clause-possible g c =
    let needs = c.in_ok-needs.needs.items in
    let read = c.deref-need-items.result.now in
    let k = c.loop-need.need-index in
    listed_possible (setting_in g.V.RowView.content c.args.self.now) true needs (get_or read k unread) c.in_ok-needs.ensures
    (read_of read needs k unread c.deref-need-items.ensures.value c.loop-need-test.true)

pub loop-need-preserved : goal.loop-need-preserved
loop-need-preserved g c =
    let read = c.deref-need-items.result.now in
    let k = c.loop-need.need-index in
    kept_more (setting_in g.V.RowView.content c.args.self.now) read k (get_or read k unread) unread c.in_ok-is_broken.field-0 c.loop-need-test.true refl
    c.loop-need.invariant c.in_ok-is_broken.ensures c.if-branch.false

pub returns-then-branch : goal.returns-then-branch
returns-then-branch g c =
    let scene = c.args.self.now in
    let read = c.deref-need-items.result.now in
    let k = c.loop-need.need-index in
    first_is_least scene.book.now (g.V.RowView.content scene.root.now) (sets_of scene.members.sets.items) c.requires.one true c.requires.changes
    c.in_ok-needs.needs.items read k c.in_ok-needs.ensures c.deref-need-items.ensures.value c.loop-need.invariant (get_or read k unread) unread
    c.in_ok-is_broken.field-0 c.broken_of.result c.loop-need-test.true refl c.in_ok-is_broken.ensures c.if-branch.true c.broken_of.ensures

pub returns : goal.returns
returns g c =
    let scene = c.args.self.now in
    none_is_broken scene.book.now (g.V.RowView.content scene.root.now) (sets_of scene.members.sets.items) c.requires.one true c.requires.changes
    c.in_ok-needs.needs.items c.deref-need-items.result.now c.loop-need.need-index c.in_ok-needs.ensures c.deref-need-items.ensures.value
    c.loop-need.invariant c.loop-need-test.false
