use Rattle.std.proofs.Common.{◌≡◌, take}
use Rattle.clr_desk_layers.proofs.schemas.are_same_columns.Given as goal

-- the columns so far are the same
abbrev pub invariant-loop-i : goal.invariant-loop-i
invariant-loop-i l = take l.i l.one ≡ take l.i l.other
