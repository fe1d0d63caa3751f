use Rattle.std.proofs.Common.{Contains, List, subst, sym}
use Rattle.clr_rows.specs.declared.cells.CellId.{CellId}
use Rattle.clr_finders.specs.Sharing.{found_cells}
use Rattle.clr_finders.specs.RowMaps.{FiledRows}
use Rattle.clr_grid.proofs.list_finder.ListFinderRowFinder.candidates.Goals as goal

pub returns : goal.returns
returns c q found =
    subst (λ (cells : List CellId). Contains cells q) (sym c.in_ok-cells.ensures)
    (subst (λ (r : FiledRows). Contains (found_cells c.args.servers r.settled c.args.rule c.args.spots.now) q) (sym c.self.view_is) found)
