use Rattle.std.proofs.Common.{◌≡◌, filter}
use Rattle.std.specs.List.{range_with_len}
use Rattle.clr_merge_clashes.specs.MergeClashes.{is_looked_at}
use Rattle.clr_merge_clashes.proofs.looked.looked_of.Given as goal

-- the members so far that are looked at
abbrev pub invariant-loop-at : goal.invariant-loop-at
invariant-loop-at l = l.list.items ≡ filter (is_looked_at l.causes l.together) (range_with_len 0 l.at)
