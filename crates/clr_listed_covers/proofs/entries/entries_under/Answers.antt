use Rattle.std.proofs.Common.{◌∙◌, ap, get_or, subst, sym}
use Rattle.clr_foot.specs.Scenes.{model_of, setting_of}
use Rattle.clr_needs.specs.Needs.{AreTouchedNeeds}
use Rattle.clr_needs.proofs.NeedOrder.{unread}
use Rattle.clr_needs.proofs.Reading.{read_of}
use Rattle.clr_listed_covers.specs.Entries.{AreEntriesUnder, IsEntryUnder}
use Rattle.clr_listed_covers.proofs.EntryLaws.{all_entries, none_more, one_entry_more, read_touched}
use Rattle.clr_listed_covers.proofs.entries.entries_under.Goals as goal
use Rattle.clr_listed_covers.proofs.entries.entries_under.Goals.{in-Some+in_ok-push, in_default}

pub entry_for-requires-clause-touched : goal.entry_for-requires-clause-touched
entry_for-requires-clause-touched g c =
    let needs = c.in_ok-needs.needs.items in
    let read = c.deref-need-items.result.now in
    let k = c.loop-need.need-index in
    read_touched (setting_of (model_of g.V.RowView.content c.args.scene.now)) (get_or read k unread) needs c.in_ok-needs.ensures
    (read_of read needs k unread c.deref-need-items.ensures.value c.loop-need-test.true)

pub loop-need-preserved : goal.loop-need-preserved
loop-need-preserved g c =
    let s = setting_of (model_of g.V.RowView.content c.args.scene.now) in
    let pairs = c.args.pairs.now in
    let read = c.deref-need-items.result.now in
    let k = c.loop-need.need-index in
    elim c.match-branch-3.branch [
      | in-Some+in_ok-push w ↦ one_entry_more s pairs read k unread c.loop-need-test.true c.loop-need.list.items c.loop-need.invariant
          c.match-branch-3.list.items w.in-Some.entry (ap (λ v. v.items) w.list-is ∙ w.in_ok-push.ensures.items)
          (subst (IsEntryUnder s pairs (get_or read k unread)) w.in-Some.is c.in_ok-entry.ensures)
      | in_default w ↦ none_more s pairs read k unread c.loop-need-test.true c.loop-need.list.items c.loop-need.invariant
          c.match-branch-3.list.items (ap (λ v. v.items) w.list-is) (subst (IsEntryUnder s pairs (get_or read k unread)) w.in_default.is c.in_ok-entry.ensures)
    ]

pub returns : goal.returns
returns g c =
    let s = setting_of (model_of g.V.RowView.content c.args.scene.now) in
    subst (AreEntriesUnder s c.args.pairs.now) (sym c.new.ensures)
    (all_entries s c.args.pairs.now c.deref-need-items.result.now c.loop-need.need-index c.loop-need.list.items c.loop-need-test.false
    (subst (AreTouchedNeeds s) (sym c.deref-need-items.ensures.value) c.in_ok-needs.ensures) c.loop-need.invariant)
