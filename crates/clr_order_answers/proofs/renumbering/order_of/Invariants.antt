use Rattle.std.proofs.Common.{◌≡◌, get_or, map, take}
use Rattle.clr_order_answers.proofs.renumbering.order_of.Given as goal

-- the members at the places so far
abbrev pub invariant-loop-place : goal.invariant-loop-place
invariant-loop-place l = l.order.items ≡ map (λ place. get_or l.list place 0) (take l.place-index l.places)
