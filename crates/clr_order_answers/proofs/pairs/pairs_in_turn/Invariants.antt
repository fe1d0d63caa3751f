use Rattle.clr_order_answers.proofs.Choices.{AreServingTo}
use Rattle.clr_order_answers.proofs.pairs.pairs_in_turn.Given as goal

-- pairs that serve the needs so far
abbrev pub invariant-loop-need : goal.invariant-loop-need
invariant-loop-need l = AreServingTo l.needs l.order l.need-index l.pairs.items
