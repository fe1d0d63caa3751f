use Rattle.std.proofs.Common.{◌∙◌, ap}
use Rattle.std.specs.FinSet as set
use Rattle.clr_grid.proofs.SetLemmas.{one_gone}
use Rattle.clr_grid.proofs.cell_sets.CellSet.remove.Goals as goal

pub returns : goal.returns
returns c = one_gone c.self.inside.cells.keys c.remove.new.self.keys c.args.cell c.remove.ensures.updates.0 ∙ ap (λ m. set.remove m c.args.cell) c.self.view_is
