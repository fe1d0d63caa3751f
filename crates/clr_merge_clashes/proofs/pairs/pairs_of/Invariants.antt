use Rattle.std.proofs.Common.{◌≡◌, filter, map, take}
use Rattle.std.specs.List.{flat_map}
use Rattle.clr_merge_clashes.specs.SharedCells.{earlier_clashes, is_apart_at}
use Rattle.clr_merge_clashes.specs.ClashSets.{stored_clash}
use Rattle.clr_merge_clashes.proofs.pairs.pairs_of.Given as goal

-- the pairs of the members so far with earlier ones, and the members without such
abbrev pub invariant-loop-later : goal.invariant-loop-later
invariant-loop-later l =
    (map stored_clash l.clashes.items ≡ flat_map (earlier_clashes l.sets l.free) (take l.later-index l.free))
    × (l.looked.items ≡ filter (is_apart_at l.sets l.free) (take l.later-index l.free))
