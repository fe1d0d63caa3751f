use Rattle.std.proofs.Common.{false, subst, sym}
use Rattle.clr_foot.specs.Scenes.{setting_in}
use Rattle.clr_foot.specs.Touches.{IsNeighbour}
use Rattle.clr_row_versions.specs.Versions.{Finds, row_of}
use Rattle.clr_foot.proofs.TouchSteps.{alone_beside_old, beside_gains}
use Rattle.clr_foot.proofs.scenes.Scene.add_beside_old.Goals as goal

pub returns-then-not-may_be_paired : goal.returns-then-not-may_be_paired
returns-then-not-may_be_paired g c =
    alone_beside_old (setting_in g.V.RowView.content c.args.self.now) c.args.rule c.args.version c.may_be_paired.result _ _ c.requires.at
    c.may_be_paired.ensures c.if-not-may_be_paired.true c.in_ok-add_alone.ensures.ok

pub returns : goal.returns
returns g c =
    let s = setting_in g.V.RowView.content c.args.self.now in
    beside_gains s c.args.rule c.requires.ready.fit c.args.version _ _ _ _ c.requires.at c.requires.new
    (subst (Finds s false (IsNeighbour false s.rules c.args.rule (row_of c.args.version))) (sym c.as_slice.ensures.value) (c.in_ok-near.ensures
    (row_of c.args.version) c.spots_of-spots.ensures))
    c.in_ok-add_alone.ensures.ok c.in_ok-add_pairs.ensures.ok
