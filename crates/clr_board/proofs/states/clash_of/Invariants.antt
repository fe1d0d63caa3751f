use Rattle.std.proofs.Common.{◌≡◌, drop, find}
use Rattle.clr_board.specs.States.{has_member}
use Rattle.clr_board.proofs.states.clash_of.Given as goal

-- none of the clashes so far has the member
abbrev pub invariant-loop-clash : goal.invariant-loop-clash
invariant-loop-clash l = find (has_member l.at) (drop l.clash-index l.helped) ≡ find (has_member l.at) l.helped
