use Rattle.std.proofs.Common.{nat_eq, inl, ◌∙◌, ap, sym}
use Rattle.std.proofs.lemmas.Bool.{false≢true}
use Rattle.std.proofs.lemmas.List.{take_all}
use Rattle.std.specs.HashMap.{get}
use Rattle.std.specs.List.{list_any}
use Rattle.clr_grid.specs.Filing.{HoldCells, has_cell}
use Rattle.clr_grid.specs.SpotNumbers.{has_number}
use Rattle.clr_grid.proofs.FilingLemmas.{AtNumbers, filed_more, gained_more, put_has, put_hold, put_keeps, put_only, same_hold}
use Rattle.clr_grid.proofs.side_index.file_at_each.Goals as goal

pub loop-spot-init : goal.loop-spot-init
loop-spot-init c = record { kept = λ x q e. e; only = λ x q e. inl e; lean = λ h. h; filed = λ x e. absurd (false≢true e) }

pub loop-spot-preserved : goal.loop-spot-preserved
unfolding HoldCells
loop-spot-preserved c =
    let f : AtNumbers = get nat_eq c.loop-spot.by_spot in
    let g : AtNumbers = get nat_eq c.file_at.new.by_spot in
    let n = c.number_of.result in
    let put = c.in_ok-file_at.ensures.ok in
    let before = c.loop-spot.invariant in record {
      kept = λ x q e. put_keeps f g n c.args.cell put x q (before.kept x q e);
      only = gained_more (get nat_eq c.args.by_spot.now) f g c.args.cell c.args.spots.now c.loop-spot.spot-index c.spot-item.result n c.loop-spot-test.true
          c.spot-item.is c.number_of.ensures (put_only f g n c.args.cell put) before.only;
      lean = λ h. put_hold f g n c.args.cell put (before.lean h);
      filed = filed_more f g c.args.cell c.args.spots.now c.loop-spot.spot-index c.spot-item.result n c.loop-spot-test.true c.spot-item.is c.number_of.ensures
          (put_keeps f g n c.args.cell put) (put_has f g n c.args.cell put) before.filed;
    }

pub returns-in_err-file_at-clause-kept : goal.returns-in_err-file_at-clause-kept
returns-in_err-file_at-clause-kept c x q e = ap (λ o. has_cell o q) (c.in_err-file_at.ensures.err x) ∙ c.loop-spot.invariant.kept x q e

pub returns-in_err-file_at-clause-only : goal.returns-in_err-file_at-clause-only
returns-in_err-file_at-clause-only c x q e = c.loop-spot.invariant.only x q (sym (ap (λ o. has_cell o q) (c.in_err-file_at.ensures.err x)) ∙ e)

pub returns-in_err-file_at-clause-lean : goal.returns-in_err-file_at-clause-lean
unfolding HoldCells
returns-in_err-file_at-clause-lean c h =
    same_hold (get nat_eq c.loop-spot.by_spot) (get nat_eq c.file_at.new.by_spot) c.in_err-file_at.ensures.err (c.loop-spot.invariant.lean h)

pub returns-clause-only : goal.returns-clause-only
returns-clause-only c = c.loop-spot.invariant.only

pub returns-clause-kept : goal.returns-clause-kept
returns-clause-kept c = c.loop-spot.invariant.kept

pub returns-clause-filed : goal.returns-clause-filed
returns-clause-filed c x e = c.loop-spot.invariant.filed x
    (ap (list_any (has_number x)) (take_all c.loop-spot.spot-index c.args.spots.now c.loop-spot-test.false) ∙ e)
