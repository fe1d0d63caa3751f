use Rattle.std.proofs.Common.{subst}
use Rattle.clr_foot.specs.FirstServers.{IsFirstAt, IsFoundCell}
use Rattle.clr_foot.specs.Scenes.{setting_in}
use Rattle.clr_foot.proofs.FirstServerLaws.{is_least, server_found, still_behind}
use Rattle.clr_row_versions.proofs.Searches.{sets_of}
use Rattle.clr_foot.proofs.scenes.Scene.first_sought.Goals as goal

pub loop-tried-preserved : goal.loop-tried-preserved
loop-tried-preserved g c =
    let scene = c.args.self.now in
    let s = setting_in g.V.RowView.content scene in
    let old = g.F.RowFinder.settled scene.finder.now in
    let new = g.F.RowFinder.settled scene.new_rows in
    let n = c.args.need.now in
    still_behind c.args.sought s n c.args.first c.args.second (IsFoundCell old new n.rule c.args.spots.now)
    (server_found scene.book.now (g.V.RowView.content scene.root.now) (sets_of scene.members.sets.items) old new c.requires.ready.is_settled scene.filed
    c.args.sought n c.args.first c.args.second c.args.spots.now
    c.requires.number c.requires.called c.requires.spots) c.loop-tried.after c.loop-tried.invariant c.next_cell.result c.next_cell.ensures c.in_ok-cell.cell
    c.in_ok-cell.was
    (subst (IsFirstAt c.args.sought s n c.args.first c.args.second c.in_ok-cell.cell) c.in_default.is c.sought_at.ensures)

pub returns-in-Some : goal.returns-in-Some
returns-in-Some g c =
    let scene = c.args.self.now in
    let s = setting_in g.V.RowView.content scene in
    let old = g.F.RowFinder.settled scene.finder.now in
    let new = g.F.RowFinder.settled scene.new_rows in
    let n = c.args.need.now in
    is_least c.args.sought s n c.args.first c.args.second (IsFoundCell old new n.rule c.args.spots.now)
    (server_found scene.book.now (g.V.RowView.content scene.root.now) (sets_of scene.members.sets.items) old new c.requires.ready.is_settled scene.filed
    c.args.sought n c.args.first c.args.second c.args.spots.now
    c.requires.number c.requires.called c.requires.spots) c.loop-tried.after c.loop-tried.invariant c.next_cell.result c.next_cell.ensures c.in_ok-cell.cell
    c.in_ok-cell.was c.in-Some.id
    (subst (IsFirstAt c.args.sought s n c.args.first c.args.second c.in_ok-cell.cell) c.in-Some.is c.sought_at.ensures)
