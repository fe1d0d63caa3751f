use Rattle.std.proofs.Common.{◌≡◌, map, take}
use Rattle.std.specs.List.{filter_map}
use Rattle.clr_merge_clashes.specs.SharedCells.{earlier_clash}
use Rattle.clr_merge_clashes.specs.ClashSets.{stored_clash}
use Rattle.clr_merge_clashes.proofs.pairs.earlier_clashes.Given as goal

-- the pairs with the members so far
abbrev pub invariant-loop-earlier : goal.invariant-loop-earlier
invariant-loop-earlier l = map stored_clash l.pairs.items ≡ filter_map (earlier_clash l.sets l.later) (take l.earlier-index l.free)
