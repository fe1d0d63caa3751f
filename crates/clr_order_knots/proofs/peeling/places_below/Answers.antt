use Rattle.std.proofs.Common.{refl, true}
use Rattle.clr_order_knots.proofs.Those.{one_such}
use Rattle.clr_order_knots.proofs.peeling.places_below.Goals as goal

pub loop-place-preserved : goal.loop-place-preserved
loop-place-preserved c = one_such (λ m. true) c.loop-place.place c.loop-place.places.items c.push.new.self.items c.in_ok-push.ensures.items refl
    c.loop-place.invariant
