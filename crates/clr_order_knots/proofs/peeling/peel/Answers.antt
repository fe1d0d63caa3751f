use Rattle.std.proofs.Common.{◌≡◌, false, subst, sym, true}
use Rattle.clr_order_knots.specs.Peeling.{IsRound, IsRoundIfAny, Stay}
use Rattle.clr_order_knots.proofs.PeeledEnds.{IsPeeling, left_at_last, nothing_peeled, one_round}
use Rattle.clr_order_knots.proofs.peeling.peel.Goals as goal

pub loop-peeled-init : goal.loop-peeled-init
loop-peeled-init c = nothing_peeled c.args.needs.now c.args.count _ c.new.ensures.items c.new-2.ensures.items c.in_ok-places_below.ensures

round : (c : goal.Then-branch) → IsRound c.args.needs.now c.args.count c.loop-peeled.peeled c.peel_once.new.peeled
round c = subst (IsRoundIfAny c.args.needs.now c.args.count c.loop-peeled.peeled c.peel_once.new.peeled) c.if-branch.true c.in_ok-peel_once.ensures

pub loop-peeled-preserved : goal.loop-peeled-preserved
loop-peeled-preserved c = one_round c.args.needs.now c.args.count c.requires.within c.requires.helped c.loop-peeled.peeled c.peel_once.new.peeled
    c.loop-peeled.invariant (round c)

pub loop-peeled-smaller : goal.loop-peeled-smaller
loop-peeled-smaller c = (round c).fewer

pub returns : goal.returns
returns c =
    let needs = c.args.needs.now in
    let ended = subst (IsRoundIfAny needs c.args.count c.loop-peeled.peeled c.peel_once.new.peeled) c.if-branch.false c.in_ok-peel_once.ensures in
    let is = subst (IsPeeling needs c.args.count) (sym ended.0) c.loop-peeled.invariant in
    record {
      peeled = is.ends;
      left = left_at_last needs c.args.count c.peel_once.new.peeled is (subst (λ p. Stay needs p.left.items p.left.items) (sym ended.0) ended.1);
      places = is.places;
    }
