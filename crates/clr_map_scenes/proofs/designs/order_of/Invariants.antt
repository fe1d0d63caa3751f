use Rattle.std.proofs.Common.{◌≡◌, ◌++◌}
use Rattle.clr_map_scenes.specs.Designs.{followers}
use Rattle.clr_map_scenes.proofs.designs.order_of.Given as goal

-- the positions that lead, and the others so far
abbrev pub invariant-loop-at : goal.invariant-loop-at
invariant-loop-at l = l.order.items ≡ l.fn.leaders ++ followers l.fn.leaders l.at
