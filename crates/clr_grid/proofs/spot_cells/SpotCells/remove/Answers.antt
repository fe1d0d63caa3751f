use Rattle.std.proofs.Common.{◌∙◌, ap, option_to_list}
use Rattle.std.specs.FinSet as set
use Rattle.clr_grid.specs.CellSets.{Cells}
use Rattle.clr_grid.proofs.SetLemmas.{both_gone}
use Rattle.clr_grid.proofs.spot_cells.SpotCells.remove.Goals as goal

pub returns : goal.returns
returns c =
    both_gone (option_to_list c.self.inside.first) (option_to_list c.without-self-inside.result) c.self.inside.others.keys c.remove.new.self.keys c.args.cell
    c.without-self-inside.ensures c.remove.ensures.updates.0
    ∙ ap (λ (m : Cells). set.remove m c.args.cell) c.self.view_is
