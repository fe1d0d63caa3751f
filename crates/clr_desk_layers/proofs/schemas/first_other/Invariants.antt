use Rattle.std.proofs.Common.{◌≡◌, take}
use Rattle.clr_desk_layers.proofs.schemas.first_other.Given as goal

-- the tables so far are the same
abbrev pub invariant-loop-i : goal.invariant-loop-i
invariant-loop-i l = take l.i l.tables ≡ take l.i l.others
