use Rattle.clr_foot.specs.Scenes.{setting_in}
use Rattle.clr_foot.specs.Ties.{IsTieOf, MayTie}
use Rattle.clr_row_versions.proofs.Gaining.{of_one_read}
use Rattle.clr_foot.proofs.scenes.Scene.add_ties.Goals as goal

pub loop-version-preserved : goal.loop-version-preserved
loop-version-preserved g c =
    let s = setting_in g.V.RowView.content c.args.self.now in
    of_one_read (MayTie c.args.kind s c.args.position) (IsTieOf c.args.kind s c.args.rule c.args.position) c.args.versions.now
    c.loop-version.version-index c.version-item.result _ _ _ c.loop-version-test.true c.version-item.is c.loop-version.invariant
    c.in_ok-add_tie.ensures
