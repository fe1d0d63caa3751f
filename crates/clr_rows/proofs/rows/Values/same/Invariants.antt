use Rattle.std.proofs.Common.{◌≡◌, take}
use Rattle.clr_rows.proofs.rows.Values.same.Given as goal

-- the values so far are the same
abbrev pub invariant-loop-i : goal.invariant-loop-i
invariant-loop-i l = take l.i l.self-inside.list.items ≡ take l.i l.other-inside.list.items
