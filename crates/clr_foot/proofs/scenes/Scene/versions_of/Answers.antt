use Rattle.std.proofs.Common.{◌∙◌, ◌<◌, ◌++◌, List, ap, subst, false, true}
use Rattle.std.specs.FinMap as finite
use Rattle.std.proofs.lemmas.List.{length-map}
use Rattle.clr_rows.specs.declared.cells.CellId.{CellId}
use Rattle.clr_row_versions.specs.Versions.{Finds}
use Rattle.clr_row_versions.proofs.Searches.{set_at, sets_of}
use Rattle.clr_foot.specs.Scenes.{setting_in}
use Rattle.clr_foot.specs.Touches.{IsInCells}
use Rattle.clr_foot.proofs.TieLaws.{member_versions}
use Rattle.clr_foot.proofs.VersionLists.{finds_all}
use Rattle.clr_foot.proofs.scenes.Scene.versions_of.Goals as goal

pub returns : goal.returns
returns g c =
    let scene = c.args.self.now in
    let s = setting_in g.V.RowView.content scene in
    let refs = scene.members.sets.items in
    let set = c.index.result.now.now in
    let cells = c.add_cells.new.cells.items in
    let keys = c.in_ok-add_cells.ensures.ok ∙ ap (λ (qs : List CellId). qs ++ finite.keys set) c.new-cells.ensures.items in
    member_versions scene.book.now (g.V.RowView.content scene.root.now) (sets_of refs) c.args.position set
    (set_at refs c.args.position c.index.result.now (subst (λ n. c.args.position < n) (length-map refs (λ s. s.now)) c.requires) c.index.ensures) cells
    c.extend_from_slice.new.self.items keys
    (finds_all s (IsInCells cells) c.in_ok-list.list.items c.in_ok-new.new.items _ (c.in_ok-extend_from_slice.ensures.items
    ∙ ap (λ vs. c.in_ok-list.list.items ++ vs) c.as_slice-3.ensures.value)
    (subst (λ qs. Finds s false (IsInCells qs) c.in_ok-list.list.items) c.as_slice.ensures.value c.in_ok-list.ensures)
    (subst (λ qs. Finds s true (IsInCells qs) c.in_ok-new.new.items) c.as_slice-2.ensures.value c.in_ok-new.ensures))
