use Rattle.clr_needs.specs.Needs.{IsTouched}
use Rattle.clr_needs.proofs.Reading.{item_in}
use Rattle.clr_foot.specs.Scenes.{setting_in}
use Rattle.clr_foot.specs.Touches.{IsNeedOfNew}
use Rattle.clr_row_versions.proofs.Gaining.{of_all, of_none, of_one_read}
use Rattle.clr_foot.proofs.TouchSteps.{new_gained}
use Rattle.clr_foot.proofs.scenes.Scene.add_of_new_versions.Goals as goal

pub loop-version-init : goal.loop-version-init
loop-version-init g c =
    let s = setting_in g.V.RowView.content c.args.self.now in
    of_none (IsTouched s) (IsNeedOfNew s c.args.rule) c.args.fresh.now c.args.needs.now.items

pub add_beside_old-requires-clause-at : goal.add_beside_old-requires-clause-at
add_beside_old-requires-clause-at g c = c.requires.fresh.are c.version-item.result (item_in c.args.fresh.now c.loop-version.version-index c.version-item.result
    c.loop-version-test.true c.version-item.is)

pub add_beside_old-requires-clause-new : goal.add_beside_old-requires-clause-new
add_beside_old-requires-clause-new g c = c.requires.fresh.alike c.version-item.result (item_in c.args.fresh.now c.loop-version.version-index
    c.version-item.result c.loop-version-test.true c.version-item.is)

pub loop-version-preserved : goal.loop-version-preserved
loop-version-preserved g c =
    let s = setting_in g.V.RowView.content c.args.self.now in
    let fresh = c.args.fresh.now in
    let k = c.loop-version.version-index in
    let v = c.version-item.result in
    of_one_read (IsTouched s) (IsNeedOfNew s c.args.rule) fresh k v _ _ _ c.loop-version-test.true c.version-item.is c.loop-version.invariant
    (new_gained s c.args.rule v _ _ (c.requires.fresh.alike v (item_in fresh k v c.loop-version-test.true c.version-item.is)) c.in_ok-add_beside_old.ensures)

pub returns : goal.returns
returns g c =
    let s = setting_in g.V.RowView.content c.args.self.now in
    of_all (IsTouched s) (IsNeedOfNew s c.args.rule) c.args.fresh.now c.loop-version.version-index _ _ c.loop-version-test.false c.loop-version.invariant
