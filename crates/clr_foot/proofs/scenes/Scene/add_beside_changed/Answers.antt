use Rattle.std.proofs.Common.{false, subst, sym}
use Rattle.clr_foot.specs.Scenes.{setting_in}
use Rattle.clr_foot.specs.Ties.{IsChangedNeighbour}
use Rattle.clr_row_versions.specs.Versions.{Finds, row_of}
use Rattle.clr_foot.proofs.TieLaws.{changed_gains, never_paired}
use Rattle.clr_foot.proofs.scenes.Scene.add_beside_changed.Goals as goal

pub returns-then-not-may_be_paired : goal.returns-then-not-may_be_paired
returns-then-not-may_be_paired g c =
    never_paired (setting_in g.V.RowView.content c.args.self.now) c.args.rule c.args.version c.may_be_paired.result _ c.requires.at
    c.may_be_paired.ensures c.if-not-may_be_paired.true

pub returns : goal.returns
returns g c =
    let s = setting_in g.V.RowView.content c.args.self.now in
    changed_gains s c.requires.ready.fit c.args.rule c.args.version c.as_slice.result.now c.requires.at
    (subst (Finds s false (IsChangedNeighbour s c.args.rule (row_of c.args.version))) (sym c.as_slice.ensures.value) (c.in_ok-near.ensures
    (row_of c.args.version) c.spots_of-spots.ensures))
    _ _ c.in_ok-add_pairs.ensures.ok
