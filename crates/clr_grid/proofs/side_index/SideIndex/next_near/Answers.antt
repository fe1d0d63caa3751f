use Rattle.clr_grid.proofs.NextLemmas.{near_next}
use Rattle.clr_grid.proofs.side_index.SideIndex.next_near.Goals as goal

pub returns : goal.returns
returns c =
    near_next c.args.self.now c.args.spots.now c.as_slice.result.now c.as_slice.ensures c.args.after c.next_if-among_wide.result c.next_at_each-at_spots.result
    c.lesser_cell.result c.lesser_cell.ensures c.next_if-among_wide.ensures c.next_at_each-at_spots.ensures
