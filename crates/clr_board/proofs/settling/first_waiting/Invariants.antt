use Rattle.std.proofs.Common.{◌≡◌, drop, find}
use Rattle.clr_board.specs.Settling.{waits}
use Rattle.clr_board.proofs.settling.first_waiting.Given as goal

-- none of the members so far waits
abbrev pub invariant-loop-at : goal.invariant-loop-at
invariant-loop-at l = find (waits l.helped) (drop l.at-index l.members) ≡ find (waits l.helped) l.members
