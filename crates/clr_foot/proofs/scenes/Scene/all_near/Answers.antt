use Rattle.std.proofs.Common.{◌∙◌, ◌++◌, ap, false}
use Rattle.clr_foot.specs.Scenes.{setting_in}
use Rattle.clr_foot.specs.Touches.{IsNeighbour}
use Rattle.clr_row_versions.specs.Versions.{row_of}
use Rattle.clr_foot.proofs.VersionLists.{finds_all}
use Rattle.clr_foot.proofs.scenes.Scene.all_near.Goals as goal

pub returns : goal.returns
returns g c =
    let s = setting_in g.V.RowView.content c.args.self.now in
    finds_all s (IsNeighbour false s.rules c.args.rule (row_of c.args.version)) _ _ _ (c.in_ok-extend_from_slice.ensures.items
    ∙ ap (λ vs. c.in_ok-list.list.items ++ vs) c.as_slice.ensures.value) (c.in_ok-list.ensures (row_of c.args.version) c.spots_of-spots.ensures)
    (c.in_ok-new.ensures (row_of c.args.version) c.spots_of-spots.ensures)
