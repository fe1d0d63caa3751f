use Rattle.std.proofs.Common.{◌∙◌, ap}
use Rattle.std.specs.FinSet as set
use Rattle.clr_grid.proofs.SetLemmas.{one_added}
use Rattle.clr_grid.proofs.cell_sets.CellSet.add.Goals as goal

pub returns-clause-ok : goal.returns-clause-ok
returns-clause-ok c = one_added c.self.inside.cells.keys c.insert.new.self.keys c.args.cell c.in_ok-insert.ensures.updates.0
    ∙ ap (λ m. set.insert m c.args.cell) c.self.view_is
