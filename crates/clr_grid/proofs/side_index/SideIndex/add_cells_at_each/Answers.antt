use Rattle.std.proofs.Common.{nat_eq, ◌≡◌, ◌∙◌, ap, subst, sym, true, ◌||◌}
use Rattle.std.proofs.lemmas.List.{take_all}
use Rattle.std.specs.HashMap.{get}
use Rattle.std.specs.FinSet as set
use Rattle.std.specs.List.{list_any}
use Rattle.clr_spots.specs.declared.spots.Spot.{Spot}
use Rattle.clr_grid.specs.Filing.{has_cell}
use Rattle.clr_grid.specs.Gains.{GainsCells}
use Rattle.clr_grid.specs.SpotNumbers.{spot_number_of}
use Rattle.clr_rows.proofs.BeginningLaws.{on_err}
use Rattle.clr_grid.proofs.FilingLemmas.{added_more}
use Rattle.clr_grid.proofs.GainLemmas.{none_there, spots_gain}
use Rattle.clr_grid.proofs.SetLemmas.{or_none}
use Rattle.clr_grid.proofs.side_index.SideIndex.add_cells_at_each.Goals as goal

pub returns-then-is_empty-clause-ok : goal.returns-then-is_empty-clause-ok
returns-then-is_empty-clause-ok c q = or_none _ ∙ ap (λ b. set.contains c.args.cells.now q || b)
    (sym (none_there c.args.self.now.by_spot (c.is_empty.ensures.0 c.if-is_empty.true) q c.args.spots.now))

pub loop-spot-init : goal.loop-spot-init
loop-spot-init c q = or_none _

pub loop-spot-preserved : goal.loop-spot-preserved
loop-spot-preserved c q = added_more (λ x. has_cell (get nat_eq c.args.self.now.by_spot (spot_number_of x)) q) c.args.spots.now c.loop-spot.spot-index
    c.spot-item.result _ _ _ c.loop-spot-test.true c.spot-item.is (c.loop-spot.invariant q) (c.in_ok-add_cells_at.ensures.ok q
    ∙ ap (λ n. set.contains c.loop-spot.cells q || has_cell (get nat_eq c.args.self.now.by_spot n) q) c.number_of.ensures)

pub returns-clause-ok : goal.returns-clause-ok
returns-clause-ok c q = c.loop-spot.invariant q
    ∙ ap (λ xs. set.contains c.args.cells.now q || list_any (λ (x : Spot). has_cell (get nat_eq c.args.self.now.by_spot (spot_number_of x)) q) xs)
    (take_all c.loop-spot.spot-index c.args.spots.now c.loop-spot-test.false)

pub returns-in_err-add_cells_at-clause-err : goal.returns-in_err-add_cells_at-clause-err
returns-in_err-add_cells_at-clause-err c =
    on_err _ (spots_gain (λ q x. has_cell (get nat_eq c.args.self.now.by_spot (spot_number_of x)) q) c.args.spots.now c.loop-spot.spot-index c.spot-item.result
    c.args.cells.now c.loop-spot.cells c.add_cells_at.new.cells
    c.loop-spot-test.true c.spot-item.is c.loop-spot.invariant
    (subst (λ n. GainsCells (λ q. has_cell (get nat_eq c.args.self.now.by_spot n) q ≡ true) c.loop-spot.cells c.add_cells_at.new.cells) c.number_of.ensures
    c.in_err-add_cells_at.ensures.err))
