use Rattle.std.proofs.Common.{◌≡◌, ◌++◌, map, take, drop}
use Rattle.clr_deltas.specs.Deltas.{swept_mark_at}
use Rattle.clr_deltas.proofs.stored_marks.sweep_each_at.Given as goal

-- the marks so far are swept
abbrev pub invariant-loop-i : goal.invariant-loop-i
invariant-loop-i g l = l.marks.items ≡ map (swept_mark_at (g.V.RowView.content l.base) l.cells) (take l.i l.fn.marks.items) ++ drop l.i l.fn.marks.items
