use Rattle.std.proofs.Common.{◌≡◌, ◌++◌, map, take, drop}
use Rattle.clr_deltas.specs.Deltas.{swept_mark}
use Rattle.clr_deltas.proofs.stored_marks.sweep_each.Given as goal

-- the marks so far are swept
abbrev pub invariant-loop-i : goal.invariant-loop-i
invariant-loop-i g l = l.marks.items ≡ map (swept_mark (g.V.RowView.content l.base)) (take l.i l.fn.marks.items) ++ drop l.i l.fn.marks.items
