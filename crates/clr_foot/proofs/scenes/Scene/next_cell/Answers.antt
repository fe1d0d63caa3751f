use Rattle.std.proofs.Common.{Contains, true}
use Rattle.clr_finders.specs.Sharing.{found_cells}
use Rattle.clr_finders.proofs.NextLemmas.{next_of_two}
use Rattle.clr_foot.specs.FirstServers.{IsFoundCell}
use Rattle.clr_foot.proofs.scenes.Scene.next_cell.Goals as goal

pub returns : goal.returns
returns g c =
    let old = g.F.RowFinder.settled c.args.self.now.finder.now in
    let new = g.F.RowFinder.settled c.args.self.now.new_rows in
    let x = c.args.spots.now in
    next_of_two c.args.after (Contains (found_cells true old c.args.rule x)) (Contains (found_cells true new c.args.rule x)) (IsFoundCell old new c.args.rule x)
    c.next_server-old.result c.next_server-new.result
    c.lesser_cell.result c.lesser_cell.ensures (λ q w. w) c.next_server-old.ensures c.next_server-new.ensures
