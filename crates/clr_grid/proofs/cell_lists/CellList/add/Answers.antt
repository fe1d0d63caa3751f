use Rattle.std.proofs.Common.{◌∙◌, List, ap}
use Rattle.std.specs.FinSet as set
use Rattle.clr_rows.specs.declared.cells.CellId.{CellId}
use Rattle.clr_grid.specs.CellSets.{Cells, with_listed_cells}
use Rattle.clr_grid.proofs.GainLemmas.{with_last}
use Rattle.clr_grid.proofs.cell_lists.CellList.add.Goals as goal

pub returns-clause-ok : goal.returns-clause-ok
returns-clause-ok c =
    ap (λ (cells : List CellId). with_listed_cells set.empty cells) c.in_ok-push.ensures.items ∙ with_last set.empty c.self.inside.cells.items c.args.cell
    ∙ ap (λ (m : Cells). set.insert m c.args.cell) c.self.view_is
