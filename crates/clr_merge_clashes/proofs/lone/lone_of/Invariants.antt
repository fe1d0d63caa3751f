use Rattle.std.proofs.Common.{◌≡◌, filter, map}
use Rattle.std.specs.List.{filter_map, range_with_len}
use Rattle.clr_merge_clashes.specs.Lone.{is_free, lone_clash}
use Rattle.clr_merge_clashes.specs.ClashSets.{stored_clash}
use Rattle.clr_merge_clashes.proofs.lone.lone_of.Given as goal

-- the members so far that can't be merged even alone, and the others
abbrev pub invariant-loop-at : goal.invariant-loop-at
invariant-loop-at l =
    (map stored_clash l.clashes.items ≡ filter_map (lone_clash l.causes) (range_with_len 0 l.at))
    × (l.free.items ≡ filter (is_free l.causes) (range_with_len 0 l.at))
