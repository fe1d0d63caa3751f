use Rattle.std.proofs.Common.{Contains, false, subst, sym}
use Rattle.std.specs.Prelude.{◌↔◌}
use Rattle.clr_finders.specs.Sharing.{found_cells}
use Rattle.clr_row_versions.proofs.Searches.{sets_of}
use Rattle.clr_row_versions.specs.Versions.{Finds}
use Rattle.clr_row_versions.specs.Gains.{OfSome}
use Rattle.clr_foot.specs.Ties.{IsChangedCell}
use Rattle.clr_foot.specs.Touches.{IsLookedUpIn}
use Rattle.clr_foot.specs.Scenes.{setting_in}
use Rattle.clr_foot.proofs.TieLaws.{changed_near_found}
use Rattle.clr_foot.proofs.VersionLists.{old_cell_found}
use Rattle.clr_foot.proofs.scenes.Scene.changed_near.Goals as goal

pub returns : goal.returns
returns g c = λ row spots.
    let scene = c.args.self.now in
    let rules = scene.book.now in
    let root = g.V.RowView.content scene.root.now in
    let sets = sets_of scene.members.sets.items in
    let settled = g.F.RowFinder.settled scene.finder.now in
    let s = setting_in g.V.RowView.content scene in
    changed_near_found rules root sets c.args.rule row c.in_ok-cells.cells.items c.in_ok-changed.changed.items c.in_ok-list.list.items
    (λ q. subst (λ cells. Contains c.in_ok-changed.changed.items q ↔ OfSome (IsChangedCell s) cells q) c.as_slice.ensures.value (c.in_ok-changed.ensures q))
    (subst (λ cells. Finds s false (IsLookedUpIn false rules c.args.rule cells) c.in_ok-list.list.items) c.as_slice-2.ensures.value c.in_ok-list.ensures)
    (λ q l is near. c.in_ok-cells.ensures q (subst (λ y. Contains (found_cells false settled c.args.rule y) q) (sym spots)
    (old_cell_found rules root sets false c.args.rule row c.requires.number settled q l c.requires.ready.is_settled is near)))
