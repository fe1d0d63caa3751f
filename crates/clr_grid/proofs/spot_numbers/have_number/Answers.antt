use Rattle.std.proofs.Common.{◌≡◌, ◌∙◌, ◌||◌, arith, false, sym, subst}
use Rattle.std.proofs.lemmas.List.{take_all}
use Rattle.std.specs.List.{list_any}
use Rattle.clr_rules.proofs.Elements.{among, any_by}
use Rattle.clr_grid.specs.SpotNumbers.{has_number}
use Rattle.clr_grid.proofs.FilingLemmas.{any_more}
use Rattle.clr_grid.proofs.SpotLemmas.{number_is, number_differs}
use Rattle.clr_grid.proofs.spot_numbers.have_number.Goals as goal

pub loop-spot-preserved : goal.loop-spot-preserved
loop-spot-preserved c =
    let spot = c.spot-item.result in
    any_more (has_number c.args.number) c.args.spots.now c.loop-spot.spot-index spot c.loop-spot-test.true c.spot-item.is
    ∙ (λ i. c.loop-spot.invariant i || number_differs c.args.number spot c.number_of.result c.number_of.ensures
    (λ e. omega (arith, e, c.if-number_of-number.false)) i)

pub returns-then-number_of-number : goal.returns-then-number_of-number
returns-then-number_of-number c =
    let spot = c.spot-item.result in
    sym (any_by (has_number c.args.number) spot c.args.spots.now
    (among spot c.args.spots.now (c.loop-spot.spot-index, c.loop-spot-test.true, sym c.spot-item.is))
    (number_is c.args.number spot c.number_of.result c.number_of.ensures (omega (arith, c.if-number_of-number.true))))

pub returns : goal.returns
returns c = sym (subst (λ xs. list_any (has_number c.args.number) xs ≡ false) (take_all c.loop-spot.spot-index c.args.spots.now c.loop-spot-test.false)
    c.loop-spot.invariant)
