use Rattle.std.proofs.Common.{take}
use Rattle.clr_order_answers.specs.Renumbering.{StandFor}
use Rattle.clr_order_answers.proofs.renumbering.places_of.Given as goal

-- the places of the members so far
abbrev pub invariant-loop-member : goal.invariant-loop-member
invariant-loop-member l = StandFor l.list l.places.items (take l.member-index l.members)
