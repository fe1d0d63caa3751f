use Rattle.std.proofs.Common.{◌≡◌, take}
use Rattle.clr_rows.proofs.rows.Values.copy.Given as goal

-- the values so far are copied
abbrev pub invariant-loop-value : goal.invariant-loop-value
invariant-loop-value l = l.list.items ≡ take l.value-index l.value-items
