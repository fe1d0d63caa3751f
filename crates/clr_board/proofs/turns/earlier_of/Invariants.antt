use Rattle.std.proofs.Common.{◌≡◌, take}
use Rattle.clr_board.specs.Boards.{earlier_of}
use Rattle.clr_board.proofs.turns.earlier_of.Given as goal

-- those that go before the member in the turns so far
abbrev pub invariant-loop-turn : goal.invariant-loop-turn
invariant-loop-turn l = l.earlier.items ≡ earlier_of (take l.turn-index l.turns) l.at
