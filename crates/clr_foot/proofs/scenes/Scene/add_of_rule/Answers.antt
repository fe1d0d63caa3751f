use Rattle.std.proofs.Common.{subst, true, false}
use Rattle.clr_foot.specs.Scenes.{setting_in}
use Rattle.clr_foot.specs.Touches.{IsInCells}
use Rattle.clr_row_versions.specs.Versions.{Finds}
use Rattle.clr_row_versions.proofs.Searches.{sets_of}
use Rattle.clr_foot.proofs.TouchSteps.{rule_gains}
use Rattle.clr_foot.proofs.scenes.Scene.add_of_rule.Goals as goal

pub add_of_changed-requires-clause-old : goal.add_of_changed-requires-clause-old
add_of_changed-requires-clause-old g c = c.requires.old.are

pub add_of_new_pairs-requires-clause-fresh : goal.add_of_new_pairs-requires-clause-fresh
add_of_new_pairs-requires-clause-fresh g c = c.requires.fresh.are

pub returns : goal.returns
returns g c =
    let scene = c.args.self.now in
    let s = setting_in g.V.RowView.content scene in
    rule_gains scene.book.now (g.V.RowView.content scene.root.now) (sets_of scene.members.sets.items) c.args.leaves_out c.args.rule c.args.fresh.now
    c.args.old.now
    _ _ _ _
    (subst (λ cells. Finds s true (IsInCells cells) c.args.fresh.now) scene.members.all c.requires.fresh)
    (subst (λ cells. Finds s false (IsInCells cells) c.args.old.now) scene.members.all c.requires.old)
    c.in_ok-add_of_new_versions.ensures c.in_ok-add_of_changed.ensures c.in_ok-add_of_new_pairs.ensures
