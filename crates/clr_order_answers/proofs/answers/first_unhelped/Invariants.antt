use Rattle.clr_order_answers.specs.Answers.{AreHelpedTo}
use Rattle.clr_order_answers.proofs.answers.first_unhelped.Given as goal

-- each need so far has a helper
abbrev pub invariant-loop-at : goal.invariant-loop-at
invariant-loop-at l = AreHelpedTo l.needs l.at
