use Rattle.std.proofs.Common.{List, Contains, subst, sym}
use Rattle.clr_rows.specs.declared.cells.CellId.{CellId}
use Rattle.clr_finders.specs.Sharing.{found_cells}
use Rattle.clr_row_versions.proofs.Searches.{sets_of}
use Rattle.clr_foot.proofs.VersionLists.{old_found}
use Rattle.clr_foot.proofs.scenes.Scene.old_near.Goals as goal

pub returns : goal.returns
returns g c = λ row spots.
    let scene = c.args.self.now in
    let rules = scene.book.now in
    let settled = g.F.RowFinder.settled scene.finder.now in
    let x = c.args.spots.now in
    old_found rules (g.V.RowView.content scene.root.now) (sets_of scene.members.sets.items) c.args.servers c.args.rule row c.requires.number
    settled x _ _ c.requires.ready.is_settled spots
    (subst (λ (cells : List CellId). (q : CellId) → Contains (found_cells c.args.servers settled c.args.rule x) q → Contains cells q)
    (sym c.as_slice.ensures.value) c.in_ok-cells.ensures) c.in_ok-list.ensures
