use Rattle.std.proofs.Common.{◌≡◌, filter}
use Rattle.std.specs.List.{range_with_len}
use Rattle.clr_desk_clashes.specs.Clashes.{is_in_no_set}
use Rattle.clr_desk_clashes.proofs.clash_members.free_positions.Given as goal

-- the positions so far that are in no set
abbrev pub invariant-loop-at : goal.invariant-loop-at
invariant-loop-at l = l.list.items ≡ filter (is_in_no_set l.clashes) (range_with_len 0 l.at)
