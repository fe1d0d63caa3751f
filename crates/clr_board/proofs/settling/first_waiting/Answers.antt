use Rattle.std.proofs.Common.{◌∙◌, ap, sym}
use Rattle.clr_board.specs.Settling.{waits}
use Rattle.clr_board.specs.States.{is_waiting}
use Rattle.clr_board.proofs.Finds.{not_this, this_one}
use Rattle.clr_board.proofs.settling.first_waiting.Goals as goal

pub loop-at-preserved : goal.loop-at-preserved
loop-at-preserved c =
    not_this (waits c.args.helped.now) c.args.members.now c.loop-at.at-index _ _ c.loop-at-test.true
    (sym (c.is_waiting.ensures ∙ ap is_waiting c.state_of.ensures) ∙ c.if-is_waiting.false) c.loop-at.invariant

pub returns-then-is_waiting : goal.returns-then-is_waiting
returns-then-is_waiting c =
    this_one (waits c.args.helped.now) c.args.members.now c.loop-at.at-index _ _ c.loop-at-test.true
    (sym (c.is_waiting.ensures ∙ ap is_waiting c.state_of.ensures) ∙ c.if-is_waiting.true) c.loop-at.invariant
