use Rattle.std.proofs.Common.{◌∙◌, ◌+◌, ap, subst, sym}
use Rattle.clr_foot.specs.Scenes.{setting_in}
use Rattle.clr_foot.proofs.VersionLists.{LookedUpTo, all_looked_up, none_looked_up, not_looked_up, one_looked_up}
use Rattle.clr_foot.proofs.scenes.Scene.versions_near.Goals as goal
use Rattle.clr_foot.proofs.scenes.Scene.versions_near.Goals.{in-Some+in_ok-push, in_default}

pub loop-cell-init : goal.loop-cell-init
loop-cell-init g c =
    let s = setting_in g.V.RowView.content c.args.self.now in
    subst (LookedUpTo s c.args.servers s.rules c.args.rule c.args.fresh c.args.cells.now 0) (sym c.in_ok-list.ensures.items)
    (none_looked_up s c.args.servers s.rules c.args.rule c.args.fresh c.args.cells.now)

pub loop-cell-preserved : goal.loop-cell-preserved
loop-cell-preserved g c =
    let s = setting_in g.V.RowView.content c.args.self.now in
    let cells = c.args.cells.now in
    let k = c.loop-cell.cell-index in
    elim c.match-version_near.branch [
      | in-Some+in_ok-push w ↦ one_looked_up s c.args.servers s.rules c.args.rule c.args.fresh cells k _ w.in-Some.version _ _ c.loop-cell-test.true
          w.in-Some.ensures (ap (λ v. v.items) w.list-is
          ∙ w.in_ok-push.ensures.items) c.loop-cell.invariant
      | in_default w ↦ subst (λ v. LookedUpTo s c.args.servers s.rules c.args.rule c.args.fresh cells (k + 1) v.items) (sym w.list-is)
          (not_looked_up s c.args.servers s.rules c.args.rule c.args.fresh cells k _ c.loop-cell.list.items c.loop-cell-test.true w.in_default.ensures
          c.loop-cell.invariant)
    ]

pub returns : goal.returns
returns g c = all_looked_up (setting_in g.V.RowView.content c.args.self.now) c.args.servers c.args.self.now.book.now c.args.rule c.args.fresh c.args.cells.now
    c.loop-cell.cell-index c.loop-cell.list.items
    c.loop-cell-test.false c.loop-cell.invariant
