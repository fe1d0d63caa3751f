use Rattle.std.proofs.Common.{◌≡◌, map, take}
use Rattle.clr_clashes.specs.ListedClashes.{listed_clash_of}
use Rattle.clr_merge_clashes.specs.MergeClashes.{need_clash}
use Rattle.clr_merge_clashes.specs.ClashSets.{stored_clash}
use Rattle.clr_merge_clashes.proofs.needs.clashes_among.Given as goal

-- the sets so far
abbrev pub invariant-loop-clash : goal.invariant-loop-clash
invariant-loop-clash l = map stored_clash l.list.items ≡ map (need_clash l.looked) (map listed_clash_of (take l.clash-index l.listed))
