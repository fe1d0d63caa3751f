use Rattle.std.proofs.Common.{◌≡◌, take}
use Rattle.clr_ordered_plans.proofs.found_orders.indices.Given as goal

-- the indices so far
abbrev pub invariant-loop-position : goal.invariant-loop-position
invariant-loop-position l = l.list.items ≡ take l.position-index l.positions
