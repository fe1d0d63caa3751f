use Rattle.std.proofs.Common.{◌∷◌, [], ◌∙◌, ap, List}
use Rattle.std.specs.FinSet as set
use Rattle.clr_rows.specs.Cells.{cell_cmp}
use Rattle.clr_rows.specs.declared.cells.CellId.{CellId}
use Rattle.clr_grid.proofs.SetLemmas.{first_put}
use Rattle.clr_grid.proofs.spot_cells.SpotCells.one.Goals as goal

pub returns : goal.returns
returns c = ap (λ (ks : List CellId). set.from_list {R = cell_cmp} (c.args.cell ∷ ks)) c.new.ensures.empty ∙ first_put c.args.cell []
