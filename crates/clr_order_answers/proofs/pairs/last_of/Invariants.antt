use Rattle.clr_order_answers.proofs.Ends.{IsLastTo}
use Rattle.clr_order_answers.proofs.pairs.last_of.Given as goal

-- the last so far that is one of the members
abbrev pub invariant-loop-at : goal.invariant-loop-at
invariant-loop-at l = IsLastTo l.members l.order l.at l.last
