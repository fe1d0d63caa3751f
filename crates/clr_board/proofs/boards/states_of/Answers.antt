use Rattle.std.proofs.Common.{◌∙◌, ◌++◌, ◌∷◌, [], sym}
use Rattle.clr_board.specs.States.{state_of}
use Rattle.clr_board.proofs.Numbers.{mapped_more}
use Rattle.clr_board.proofs.boards.states_of.Goals as goal

pub loop-at-preserved : goal.loop-at-preserved
loop-at-preserved c =
    c.in_ok-push.ensures.items ∙ (λ i. c.loop-at.invariant i ++ c.state_of.ensures i ∷ [])
    ∙ sym (mapped_more (state_of c.args.helped.now) c.loop-at.at)
