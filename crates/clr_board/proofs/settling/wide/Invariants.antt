use Rattle.std.proofs.Common.{◌≡◌, take}
use Rattle.clr_board.proofs.settling.wide.Given as goal

-- the positions so far
abbrev pub invariant-loop-place : goal.invariant-loop-place
invariant-loop-place l = l.list.items ≡ take l.place-index l.places
