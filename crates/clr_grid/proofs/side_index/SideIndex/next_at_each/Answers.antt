use Rattle.std.proofs.Common.{subst}
use Rattle.std.proofs.lemmas.Bool.{false≢true}
use Rattle.std.proofs.lemmas.List.{take_all}
use Rattle.clr_finders.specs.NextCells.{IsNextOf}
use Rattle.clr_finders.proofs.NextLemmas.{next_none}
use Rattle.clr_grid.proofs.NextLemmas.{HasCellAtSome, spot_next}
use Rattle.clr_grid.proofs.side_index.SideIndex.next_at_each.Goals as goal

pub loop-spot-init : goal.loop-spot-init
loop-spot-init c = next_none c.args.after _ (λ q e. false≢true e)

pub loop-spot-preserved : goal.loop-spot-preserved
loop-spot-preserved c =
    spot_next c.args.self.now c.args.after c.args.spots.now c.loop-spot.spot-index c.spot-item.result c.number_of.result c.loop-spot.next c.next_at.result
    c.lesser_cell-next.result c.loop-spot-test.true c.spot-item.is
    c.number_of.ensures c.lesser_cell-next.ensures c.loop-spot.invariant c.next_at.ensures

pub returns : goal.returns
returns c =
    subst (λ xs. IsNextOf (HasCellAtSome c.args.self.now c.args.after c.args.spots.now xs) c.args.after c.loop-spot.next)
    (take_all c.loop-spot.spot-index c.args.spots.now c.loop-spot-test.false) c.loop-spot.invariant
