use Rattle.std.proofs.Common.{◌≡◌, ◌∙◌, ◌-◌, ap, arith, drop, false, length, length-drop, subst, sym, take, true}
use Rattle.std.proofs.lemmas.List.{take_all}
use Rattle.clr_order_knots.specs.Knots.{Absorbs, AbsorbsIfAny, NoneTouches}
use Rattle.clr_order_knots.specs.Members.{AreThose, is_concerned, needs_at}
use Rattle.clr_order_knots.proofs.Gathering.{IsGathering, gathering_begun, gathering_more, knot_gathered}
use Rattle.clr_order_knots.proofs.knots.first_knot.Goals as goal

pub loop-outside-init : goal.loop-outside-init
loop-outside-init c =
    let needs = c.args.needs.now in
    let left = c.args.left.now in
    let rest : c.in_ok-outside.outside.items ≡ drop 1 left = c.in_ok-outside.ensures.items ∙ take_all (length left - 1) (drop 1 left) (omega (arith, length-drop 1 left)) in
    subst (λ is. IsGathering needs left is c.in_ok-outside.outside.items) (sym c.in_ok-inside.ensures.items)
    (subst (λ os. IsGathering needs left (take 1 left) os) (sym rest) (gathering_begun needs c.args.count c.requires.within left c.requires.places c.requires.some))

absorbed : (c : goal.Then-branch) → Absorbs c.args.needs.now c.loop-outside.inside.items c.loop-outside.outside.items c.absorb.new.inside.items c.absorb.new.outside.items
absorbed c = subst (AbsorbsIfAny c.args.needs.now c.loop-outside.inside.items c.loop-outside.outside.items c.absorb.new.inside.items c.absorb.new.outside.items)
    c.if-branch.true c.in_ok-absorb.ensures

pub loop-outside-preserved : goal.loop-outside-preserved
loop-outside-preserved c = gathering_more c.args.needs.now c.args.count c.requires.within c.args.left.now c.loop-outside.inside.items c.loop-outside.outside.items
    c.absorb.new.inside.items c.absorb.new.outside.items (absorbed c) c.loop-outside.invariant

pub loop-outside-smaller : goal.loop-outside-smaller
loop-outside-smaller c = (absorbed c).fewer

pub returns : goal.returns
returns c =
    let needs = c.args.needs.now in
    let left = c.args.left.now in
    let knot = c.in_ok-knot.knot in
    let ended = subst (AbsorbsIfAny needs c.loop-outside.inside.items c.loop-outside.outside.items c.absorb.new.inside.items c.absorb.new.outside.items)
    c.if-branch.false c.in_ok-absorb.ensures in
    let in_is = ap (λ v. v.items) c.in_ok-knot.ensures.inside ∙ ended.0 in
    let out_is = ap (λ v. v.items) c.in_ok-knot.ensures.outside ∙ ended.1 in
    knot_gathered needs c.args.count c.requires.within left knot
    (subst (λ is. IsGathering needs left is knot.outside.items) (sym in_is)
    (subst (λ os. IsGathering needs left c.loop-outside.inside.items os) (sym out_is) c.loop-outside.invariant))
    (subst (λ is. NoneTouches needs is knot.outside.items) (sym in_is)
    (subst (λ os. NoneTouches needs c.loop-outside.inside.items os) (sym out_is) ended.2))
    (subst (λ is. AreThose c.args.count (is_concerned (needs_at needs is)) knot.members.items) (sym (ap (λ v. v.items) c.in_ok-knot.ensures.inside))
    c.in_ok-knot.ensures.members)
