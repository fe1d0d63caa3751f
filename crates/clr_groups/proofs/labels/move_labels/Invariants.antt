use Rattle.clr_groups.proofs.LabelSteps.{AreMovedTo}
use Rattle.clr_groups.proofs.labels.move_labels.Given as goal

-- the labels so far are replaced
abbrev pub invariant-loop-k : goal.invariant-loop-k
invariant-loop-k l = AreMovedTo l.from l.to l.k l.initial.labels.items l.labels.items
