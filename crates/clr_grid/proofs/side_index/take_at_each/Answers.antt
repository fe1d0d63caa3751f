use Rattle.std.proofs.Common.{nat_eq, ◌≡◌, ◌∙◌, ap, sym, subst, true}
use Rattle.std.proofs.lemmas.Bool.{false≢true}
use Rattle.std.proofs.lemmas.List.{take_all}
use Rattle.std.specs.HashMap.{get}
use Rattle.std.specs.List.{list_any}
use Rattle.std.specs.Option.{option_copied}
use Rattle.clr_grid.specs.SpotNumbers.{has_number}
use Rattle.clr_grid.specs.Filing.{ByNumber, HoldCells, has_cell}
use Rattle.clr_grid.proofs.FilingLemmas.{AtNumbers, gone_more, taken_more}
use Rattle.clr_grid.proofs.side_index.take_at_each.Goals as goal
use Rattle.clr_grid.proofs.side_index.take_at_each.Goals.{then-not-keeps_number, else-not-keeps_number}

pub loop-spot-init : goal.loop-spot-init
loop-spot-init c = record { kept = λ x q p e. e; fewer = λ x q e. e; gone = λ x among. absurd (false≢true among); lean = λ h. h }

pub loop-spot-preserved : goal.loop-spot-preserved
loop-spot-preserved c =
    let f : AtNumbers = get nat_eq c.args.by_spot.now in
    let g : AtNumbers = get nat_eq c.loop-spot.by_spot in
    let s = c.spot-item.result in
    let kept = option_copied c.args.kept in
    let before = c.loop-spot.invariant in
    elim c.if-not-keeps_number.branch [
      | then-not-keeps_number w ↦ (let h : AtNumbers = get nat_eq w.take_at.new.by_spot in record {
        kept = λ x q p e. subst (λ (m : ByNumber). has_cell (get nat_eq m x) q ≡ true) (sym w.by_spot-is)
            (taken_more f g h c.args.cell kept c.number_of-number.result (sym c.keeps_number.ensures ∙ w.if-not-keeps_number.true) w.take_at.ensures.kept
            before.kept x q p e);
        fewer = λ x q e. before.fewer x q (w.take_at.ensures.fewer x q (subst (λ (m : ByNumber). has_cell (get nat_eq m x) q ≡ true) w.by_spot-is e));
        lean = λ hold. subst HoldCells (sym w.by_spot-is) (w.take_at.ensures.lean (before.lean hold));
        gone = λ x among e. gone_more g h c.args.cell kept c.args.spots.now c.loop-spot.spot-index s c.number_of-number.result c.loop-spot-test.true
            c.spot-item.is c.number_of-number.ensures w.take_at.ensures.fewer
            (λ there. absurd (false≢true (sym w.take_at.ensures.gone ∙ there))) before.gone x among
            (subst (λ (m : ByNumber). has_cell (get nat_eq m x) c.args.cell ≡ true) w.by_spot-is e);
      })
      | else-not-keeps_number w ↦ record {
        kept = λ x q p e. subst (λ (m : ByNumber). has_cell (get nat_eq m x) q ≡ true) (sym w.by_spot-is) (before.kept x q p e);
        fewer = λ x q e. before.fewer x q (subst (λ (m : ByNumber). has_cell (get nat_eq m x) q ≡ true) w.by_spot-is e);
        lean = λ hold. subst HoldCells (sym w.by_spot-is) (before.lean hold);
        gone = λ x among e. gone_more g g c.args.cell kept c.args.spots.now c.loop-spot.spot-index s c.number_of-number.result c.loop-spot-test.true
            c.spot-item.is c.number_of-number.ensures (λ y q there. there)
            (λ there. sym c.keeps_number.ensures ∙ w.if-not-keeps_number.false) before.gone x among
            (subst (λ (m : ByNumber). has_cell (get nat_eq m x) c.args.cell ≡ true) w.by_spot-is e);
      }
    ]

pub returns-clause-kept : goal.returns-clause-kept
returns-clause-kept c = c.loop-spot.invariant.kept

pub returns-clause-fewer : goal.returns-clause-fewer
returns-clause-fewer c = c.loop-spot.invariant.fewer

pub returns-clause-gone : goal.returns-clause-gone
returns-clause-gone c x among = c.loop-spot.invariant.gone x
    (ap (list_any (has_number x)) (take_all c.loop-spot.spot-index c.args.spots.now c.loop-spot-test.false) ∙ among)
