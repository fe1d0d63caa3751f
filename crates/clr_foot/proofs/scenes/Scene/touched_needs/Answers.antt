use Rattle.clr_row_versions.proofs.Searches.{sets_of}
use Rattle.clr_foot.proofs.TouchSteps.{none_left_out}
use Rattle.clr_foot.proofs.scenes.Scene.touched_needs.Goals as goal

pub returns : goal.returns
returns g c =
    let scene = c.args.self.now in
    none_left_out scene.book.now (g.V.RowView.content scene.root.now) (sets_of scene.members.sets.items) c.in_ok-needs.needs.items c.in_ok-needs.ensures
