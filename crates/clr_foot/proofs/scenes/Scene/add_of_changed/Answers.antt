use Rattle.clr_needs.specs.Needs.{IsTouched}
use Rattle.clr_needs.proofs.Reading.{item_in}
use Rattle.clr_foot.specs.Scenes.{setting_in}
use Rattle.clr_foot.specs.Touches.{IsNeedOfChanged}
use Rattle.clr_row_versions.proofs.Gaining.{of_all, of_none, of_one_read}
use Rattle.clr_foot.proofs.scenes.Scene.add_of_changed.Goals as goal

pub loop-version-init : goal.loop-version-init
loop-version-init g c =
    let s = setting_in g.V.RowView.content c.args.self.now in
    of_none (IsTouched s) (IsNeedOfChanged s c.args.rule) c.args.old.now c.args.needs.now.items

pub add_if_changed-requires-clause-at : goal.add_if_changed-requires-clause-at
add_if_changed-requires-clause-at g c = c.requires.old c.version-item.result (item_in c.args.old.now c.loop-version.version-index c.version-item.result
    c.loop-version-test.true c.version-item.is)

pub loop-version-preserved : goal.loop-version-preserved
loop-version-preserved g c =
    let s = setting_in g.V.RowView.content c.args.self.now in
    of_one_read (IsTouched s) (IsNeedOfChanged s c.args.rule) c.args.old.now c.loop-version.version-index c.version-item.result _ _ _ c.loop-version-test.true
    c.version-item.is c.loop-version.invariant c.in_ok-add_if_changed.ensures

pub returns : goal.returns
returns g c =
    let s = setting_in g.V.RowView.content c.args.self.now in
    of_all (IsTouched s) (IsNeedOfChanged s c.args.rule) c.args.old.now c.loop-version.version-index _ _ c.loop-version-test.false c.loop-version.invariant
