use Rattle.std.proofs.Common.{map}
use Rattle.clr_groups.proofs.Places.{ArePlacedTo, positions}
use Rattle.clr_groups.proofs.group_needs.places_of.Given as goal

-- the members so far have their places
abbrev pub invariant-loop-member : goal.invariant-loop-member
invariant-loop-member l = ArePlacedTo (map positions l.groups) l.member l.places.items
