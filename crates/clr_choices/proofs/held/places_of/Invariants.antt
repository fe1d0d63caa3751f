use Rattle.clr_choices.proofs.Holding.{ArePlacedTo}
use Rattle.clr_choices.proofs.held.places_of.Given as goal

-- the members so far have their places
abbrev pub invariant-loop-member : goal.invariant-loop-member
invariant-loop-member l = ArePlacedTo l.positions l.members l.member-index l.places.items
