use Rattle.std.proofs.Common.{◌≡◌, drop}
use Rattle.std.specs.Cmp.Lexicographic.{slice_cmp}
use Rattle.clr_spots.specs.SpotOrder.{value_cmp}
use Rattle.clr_spots.proofs.order.order_of_lists.Given as goal

-- the values so far tie, so the others decide
abbrev pub invariant-loop-i : goal.invariant-loop-i
invariant-loop-i l = slice_cmp value_cmp l.a l.b ≡ slice_cmp value_cmp (drop l.i l.a) (drop l.i l.b)
