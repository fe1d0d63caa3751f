use Rattle.std.proofs.Common.{true}
use Rattle.clr_order_knots.specs.Members.{AreThose}
use Rattle.clr_order_knots.proofs.peeling.places_below.Given as goal

-- the places so far
abbrev pub invariant-loop-place : goal.invariant-loop-place
invariant-loop-place l = AreThose l.place (λ m. true) l.places.items
