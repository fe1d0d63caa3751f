use Rattle.std.proofs.Common.{◌≡◌, filter}
use Rattle.std.specs.List.{range_with_len}
use Rattle.clr_merge_clashes.specs.Beside.{is_beside}
use Rattle.clr_merge_clashes.proofs.beside.positions_beside.Given as goal

-- the positions so far that weren't looked at
abbrev pub invariant-loop-at : goal.invariant-loop-at
invariant-loop-at l = l.list.items ≡ filter (is_beside l.looked) (range_with_len 0 l.at)
