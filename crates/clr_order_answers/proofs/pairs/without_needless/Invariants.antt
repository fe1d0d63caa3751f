use Rattle.clr_order_answers.proofs.Choices.{AreKeptTo}
use Rattle.clr_order_answers.proofs.pairs.without_needless.Given as goal

-- of the pairs so far those that are needed beside the rest
abbrev pub invariant-loop-at : goal.invariant-loop-at
invariant-loop-at l = AreKeptTo l.needs l.pairs l.at l.kept.items
