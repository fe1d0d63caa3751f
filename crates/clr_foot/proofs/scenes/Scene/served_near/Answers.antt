use Rattle.std.proofs.Common.{◌∙◌, ◌+◌, Contains, ap, false, subst, sym}
use Rattle.clr_needs.proofs.Reading.{item_in}
use Rattle.clr_foot.specs.Scenes.{setting_in}
use Rattle.clr_foot.specs.Touches.{IsNeighbour}
use Rattle.clr_row_versions.specs.Versions.{FindsAll, row_of}
use Rattle.clr_foot.proofs.ServingLaws.{AreKept, all_are_near, all_kept, none_kept, one_kept, one_left}
use Rattle.clr_foot.proofs.scenes.Scene.served_near.Goals as goal
use Rattle.clr_foot.proofs.scenes.Scene.served_near.Goals.{else-may_be_served, then-may_be_served+in_ok-push}

pub returns-then-not-is_crossing : goal.returns-then-not-is_crossing
returns-then-not-is_crossing g c =
    all_are_near (setting_in g.V.RowView.content c.args.self.now) c.args.rule (row_of c.args.server) _ c.in_ok-near.ensures

pub loop-version-init : goal.loop-version-init
loop-version-init g c =
    none_kept (setting_in g.V.RowView.content c.args.self.now) c.args.rule (row_of c.args.server) c.deref-version-items.result.now c.in_ok-list.list.items
    c.in_ok-list.ensures.items

pub may_be_served-requires-clause-subject : goal.may_be_served-requires-clause-subject
may_be_served-requires-clause-subject g c =
    let v = c.version-item.result in
    c.in_ok-near.ensures.are v (subst (λ vs. Contains vs v) c.deref-version-items.ensures.value
    (item_in c.deref-version-items.result.now c.loop-version.version-index v c.loop-version-test.true c.version-item.is))

pub loop-version-preserved : goal.loop-version-preserved
loop-version-preserved g c =
    let s = setting_in g.V.RowView.content c.args.self.now in
    let r = row_of c.args.server in
    let near = c.deref-version-items.result.now in
    let k = c.loop-version.version-index in
    let v = c.version-item.result in
    elim c.if-may_be_served.branch [
      | then-may_be_served+in_ok-push w ↦ one_kept s c.args.rule r near k v _ _ c.loop-version-test.true c.version-item.is (ap (λ l. l.items) w.list-is
          ∙ w.in_ok-push.ensures.items) c.loop-version.invariant
      | else-may_be_served w ↦ subst (λ l. AreKept s c.args.rule r near (k + 1) l.items) (sym w.list-is)
          (one_left s c.args.rule r near k v _ c.loop-version-test.true c.version-item.is (c.may_be_served.ensures w.if-may_be_served.false)
          c.loop-version.invariant)
    ]

pub returns : goal.returns
returns g c =
    let s = setting_in g.V.RowView.content c.args.self.now in
    let r = row_of c.args.server in
    all_kept s c.args.rule r c.deref-version-items.result.now c.loop-version.version-index _ c.loop-version-test.false
    (subst (FindsAll s (IsNeighbour false s.rules c.args.rule r)) (sym c.deref-version-items.ensures.value) c.in_ok-near.ensures) c.loop-version.invariant
