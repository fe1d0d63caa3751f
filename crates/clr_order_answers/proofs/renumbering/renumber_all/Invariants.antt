use Rattle.std.proofs.Common.{take}
use Rattle.clr_order_knots.specs.Members.{needs_at}
use Rattle.clr_order_answers.specs.Renumbering.{AreRenumbered}
use Rattle.clr_order_answers.proofs.renumbering.renumber_all.Given as goal

-- the needs at the places so far
abbrev pub invariant-loop-at : goal.invariant-loop-at
invariant-loop-at l = AreRenumbered l.list (needs_at l.needs (take l.at-index l.places)) l.renumbered.items
