use Rattle.std.proofs.Common.{◌≡◌}
use Rattle.std.specs.List.{range_with_len}
use Rattle.clr_board.specs.Settling.{goers_of}
use Rattle.clr_board.proofs.settling.goers_of.Given as goal

-- those of the members so far that go
abbrev pub invariant-loop-at : goal.invariant-loop-at
invariant-loop-at l = l.goers.items ≡ goers_of l.helped (range_with_len 0 l.at)
