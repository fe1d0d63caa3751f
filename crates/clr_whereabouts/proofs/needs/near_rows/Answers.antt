use Rattle.std.proofs.Common.{Option, subst₂, sym}
use Rattle.clr_rules.specs.Sides.{Segment}
use Rattle.clr_phrases.specs.declared.meetings.Meeting.TheVariants as met
use Rattle.clr_serving_rows.specs.NeedPlaces.{IsCrossingPlace}
use Rattle.clr_whereabouts.specs.Whereabouts.{IsNearParts}
use Rattle.clr_whereabouts.proofs.BetweenLemmas.{parts_between}
use Rattle.clr_whereabouts.proofs.needs.near_rows.Goals as goal

pub returns-in-Some-Some : goal.returns-in-Some-Some
returns-in-Some-Some c r is =
    let told = rw (c.in-Some-Some.is-0, c.in-Some-Some.is-1) at is in
    let one = c.part.ensures in
    let two = c.part-in-Some-Some.ensures in
    let near = subst₂ (λ (x y : Option Segment). IsNearParts x y c.near_parts.result) one two
    (c.near_parts.ensures (subst₂ (λ (x y : Option Segment). IsCrossingPlace x y met.Between) (sym one) (sym two)
    (parts_between r c.args.need.now c.in-Some-Some.first.now c.in-Some-Some.second.now told))) in
    rw (c.in-Some-Some.is-0, c.in-Some-Some.is-1) near
