use Rattle.std.proofs.Common.{map}
use Rattle.clr_choices.proofs.Holding.{AreFoundTo}
use Rattle.clr_choices.proofs.held.positions_of.Given as goal

-- the members that stand among the names so far, in their order
abbrev pub invariant-loop-at : goal.invariant-loop-at
invariant-loop-at l = AreFoundTo l.names (map (λ member. member.now) l.members) l.at l.positions.items
