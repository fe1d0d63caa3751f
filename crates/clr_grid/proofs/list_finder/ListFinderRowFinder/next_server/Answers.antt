use Rattle.clr_grid.proofs.NextLemmas.{next_of_all}
use Rattle.clr_grid.proofs.list_finder.ListFinderRowFinder.next_server.Goals as goal

pub returns : goal.returns
returns c = next_of_all c.self.inside.rows c.args.self.now c.args._spots.now c.args._rule c.args.after c.next_cell.result c.self.view_is c.next_cell.ensures
