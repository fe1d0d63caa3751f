use Rattle.std.proofs.Common.{◌≡◌, filter}
use Rattle.std.specs.List.{range_with_len}
use Rattle.clr_desk_merges.specs.Waiting.{is_done_at}
use Rattle.clr_desk_merges.proofs.waiting.done_positions.Given as goal

-- the positions so far of merges that were done
abbrev pub invariant-loop-at : goal.invariant-loop-at
invariant-loop-at l = l.list.items ≡ filter (is_done_at l.replies) (range_with_len 0 l.at)
