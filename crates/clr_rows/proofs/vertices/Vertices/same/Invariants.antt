use Rattle.std.proofs.Common.{◌≡◌, take}
use Rattle.clr_rows.proofs.vertices.Vertices.same.Given as goal

-- the vertices so far are the same
abbrev pub invariant-loop-i : goal.invariant-loop-i
invariant-loop-i l = take l.i l.self-inside.list.items ≡ take l.i l.other-inside.list.items
