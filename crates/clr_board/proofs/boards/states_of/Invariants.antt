use Rattle.std.proofs.Common.{◌≡◌}
use Rattle.std.specs.List.{range_with_len}
use Rattle.clr_board.specs.Boards.{states_of}
use Rattle.clr_board.proofs.boards.states_of.Given as goal

-- how the members so far stand
abbrev pub invariant-loop-at : goal.invariant-loop-at
invariant-loop-at l = l.states.items ≡ states_of l.helped (range_with_len 0 l.at)
