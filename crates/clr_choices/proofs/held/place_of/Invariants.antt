use Rattle.std.proofs.Common.{Contains, take}
use Rattle.clr_choices.proofs.held.place_of.Given as goal

-- none so far is the position
abbrev pub invariant-loop-at : goal.invariant-loop-at
invariant-loop-at l = ¬ (Contains (take l.at l.positions) l.position)
