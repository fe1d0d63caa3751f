use Rattle.std.proofs.Common.{◌≡◌, ◌∙◌, false, sym, subst}
use Rattle.std.proofs.lemmas.List.{take_all}
use Rattle.std.specs.List.{list_any}
use Rattle.clr_spots.specs.SpotOrder.{same_spot}
use Rattle.clr_rules.proofs.Elements.{among, any_by}
use Rattle.clr_finders.proofs.CommonSpots.{some_in, common_turned}
use Rattle.clr_finders.proofs.meetings.have_common_spot.Goals as goal

pub returns-then-contains : goal.returns-then-contains
returns-then-contains c =
    let spot = c.spot-item.result in
    let first = c.args.first.now in
    let second = c.args.second.now in
    sym (any_by (λ x. list_any (λ y. same_spot y x) second) spot first (among spot first (c.loop-spot.spot-index, c.loop-spot-test.true, sym c.spot-item.is))
    (sym c.contains.ensures.value ∙ c.if-contains.true))
    ∙ common_turned first second

pub returns : goal.returns
returns c =
    let first = c.args.first.now in
    let second = c.args.second.now in
    sym (subst (λ xs. some_in second xs ≡ false) (take_all c.loop-spot.spot-index first c.loop-spot-test.false) c.loop-spot.invariant)
    ∙ common_turned first second
