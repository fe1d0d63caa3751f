use Rattle.std.proofs.Common.{◌≡◌, map, take}
use Rattle.clr_board.specs.Boards.{turn_of}
use Rattle.clr_board.proofs.turns.turns_of_pairs.Given as goal

-- the turns of the pairs so far
abbrev pub invariant-loop-pair : goal.invariant-loop-pair
invariant-loop-pair l = l.turns.items ≡ map (turn_of l.goers) (take l.pair-index l.pairs)
