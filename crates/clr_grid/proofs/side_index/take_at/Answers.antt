use Rattle.std.proofs.Common.{nat_eq}
use Rattle.std.specs.HashMap.{get}
use Rattle.clr_grid.specs.Filing.{HoldCells}
use Rattle.clr_grid.proofs.FilingLemmas.{AtNumbers, emptied_fewer, emptied_gone, emptied_hold, emptied_keeps, removed_fewer, removed_gone, removed_hold}
use Rattle.clr_grid.proofs.FilingLemmas.{removed_keeps}
use Rattle.clr_grid.proofs.side_index.take_at.Goals as goal

pub returns-then-remove_at-clause-kept : goal.returns-then-remove_at-clause-kept
returns-then-remove_at-clause-kept c x q apart e =
    let f : AtNumbers = get nat_eq c.args.by_spot.now in
    let g : AtNumbers = get nat_eq c.remove_at.new.by_spot in
    let h : AtNumbers = get nat_eq c.remove.new.self in
    emptied_keeps g h c.args.number (c.remove_at.ensures.none c.if-remove_at.true) c.remove.ensures.updates.0 x q
    (removed_keeps f g c.args.number c.args.cell c.remove_at.ensures.cells x q apart e)

pub returns-then-remove_at-clause-fewer : goal.returns-then-remove_at-clause-fewer
returns-then-remove_at-clause-fewer c x q e =
    let f : AtNumbers = get nat_eq c.args.by_spot.now in
    let g : AtNumbers = get nat_eq c.remove_at.new.by_spot in
    let h : AtNumbers = get nat_eq c.remove.new.self in
    removed_fewer f g c.args.number c.args.cell c.remove_at.ensures.cells x q (emptied_fewer g h c.args.number c.remove.ensures.updates.0 x q e)

pub returns-then-remove_at-clause-gone : goal.returns-then-remove_at-clause-gone
returns-then-remove_at-clause-gone c =
    emptied_gone (get nat_eq c.remove_at.new.by_spot) (get nat_eq c.remove.new.self) c.args.number c.args.cell c.remove.ensures.updates.0

pub returns-then-remove_at-clause-lean : goal.returns-then-remove_at-clause-lean
unfolding HoldCells
returns-then-remove_at-clause-lean c =
    emptied_hold (get nat_eq c.args.by_spot.now) (get nat_eq c.remove_at.new.by_spot) (get nat_eq c.remove.new.self) c.args.number _ c.remove_at.ensures.cells
    c.remove.ensures.updates.0

pub returns-else-remove_at-clause-kept : goal.returns-else-remove_at-clause-kept
returns-else-remove_at-clause-kept c =
    removed_keeps (get nat_eq c.args.by_spot.now) (get nat_eq c.remove_at.new.by_spot) c.args.number c.args.cell c.remove_at.ensures.cells

pub returns-else-remove_at-clause-fewer : goal.returns-else-remove_at-clause-fewer
returns-else-remove_at-clause-fewer c =
    removed_fewer (get nat_eq c.args.by_spot.now) (get nat_eq c.remove_at.new.by_spot) c.args.number c.args.cell c.remove_at.ensures.cells

pub returns-else-remove_at-clause-gone : goal.returns-else-remove_at-clause-gone
returns-else-remove_at-clause-gone c =
    removed_gone (get nat_eq c.args.by_spot.now) (get nat_eq c.remove_at.new.by_spot) c.args.number c.args.cell c.remove_at.ensures.cells

pub returns-else-remove_at-clause-lean : goal.returns-else-remove_at-clause-lean
unfolding HoldCells
returns-else-remove_at-clause-lean c =
    removed_hold (get nat_eq c.args.by_spot.now) (get nat_eq c.remove_at.new.by_spot) c.args.number _ c.remove_at.ensures.cells
    (c.remove_at.ensures.some c.if-remove_at.false)
