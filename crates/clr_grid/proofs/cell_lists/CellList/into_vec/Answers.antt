use Rattle.clr_rows.proofs.CellOrder.{cell_cmp_exact}
use Rattle.clr_grid.proofs.cell_lists.CellList.into_vec.Goals as goal

pub put_in_order-requires : goal.put_in_order-requires
put_in_order-requires c = cell_cmp_exact
