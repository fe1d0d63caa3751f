use Rattle.std.proofs.Common.{inl, inr, sym}
use Rattle.clr_needs.proofs.Reading.{all_taken, none_taken, one_more}
use Rattle.clr_choices.proofs.held.place_of.Goals as goal

pub loop-at-init : goal.loop-at-init
loop-at-init c = none_taken c.args.positions.now c.args.position

pub loop-at-preserved : goal.loop-at-preserved
loop-at-preserved c h = elim (one_more c.args.positions.now c.loop-at.at 0 c.args.position c.loop-at-test.true h) [
  | inl earlier ↦ c.loop-at.invariant earlier
  | inr last ↦ c.if-positions-at.false (sym last)
]

pub returns : goal.returns
returns c = absurd (c.loop-at.invariant (all_taken c.args.positions.now c.loop-at.at c.args.position c.loop-at-test.false c.requires))
