use Rattle.clr_rows.proofs.BeginningLaws.{on_err}
use Rattle.clr_grid.proofs.FilingLemmas.{near_by, near_keeps}
use Rattle.clr_grid.proofs.GainLemmas.{spot_gain, wide_gain}
use Rattle.clr_grid.proofs.side_index.SideIndex.add_near.Goals as goal

pub returns-clause-kept : goal.returns-clause-kept
returns-clause-kept c =
    near_keeps c.args.self.now c.args.spots.now c.args.cells.now c.add_to.new.cells c.add_cells_at_each.new.cells c.as_slice.result.now
    c.in_ok-add_to.ensures.ok
    c.in_ok-add_cells_at_each.ensures.ok

pub returns-clause-near : goal.returns-clause-near
returns-clause-near c =
    near_by c.args.self.now c.args.spots.now c.args.cells.now c.add_to.new.cells c.add_cells_at_each.new.cells c.as_slice.result.now c.in_ok-add_to.ensures.ok
    c.in_ok-add_cells_at_each.ensures.ok c.as_slice.ensures

pub returns-in_err-add_to-clause-err : goal.returns-in_err-add_to-clause-err
returns-in_err-add_to-clause-err c = on_err _ (wide_gain c.args.self.now c.args.spots.now c.args.cells.now c.add_to.new.cells c.in_err-add_to.ensures.err)

pub returns-in_err-add_cells_at_each-clause-err : goal.returns-in_err-add_cells_at_each-clause-err
returns-in_err-add_cells_at_each-clause-err c =
    on_err _ (spot_gain c.args.self.now c.args.spots.now c.args.cells.now c.add_to.new.cells c.add_cells_at_each.new.cells c.as_slice.result.now
    c.as_slice.ensures
    c.in_ok-add_to.ensures.ok c.in_err-add_cells_at_each.ensures.err)
