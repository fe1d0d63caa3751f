use Rattle.std.proofs.Common.{length}
use Rattle.clr_order_knots.proofs.Gathering.{IsGathering}
use Rattle.clr_order_knots.proofs.knots.first_knot.Given as goal

-- the needs inside are joined
abbrev pub invariant-loop-outside : goal.invariant-loop-outside
invariant-loop-outside l = IsGathering l.needs l.left l.inside.items l.outside.items

abbrev pub decreases-loop-outside : goal.decreases-loop-outside
decreases-loop-outside l = length l.outside.items
