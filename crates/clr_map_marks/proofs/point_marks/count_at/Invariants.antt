use Rattle.std.proofs.Common.{◌≡◌, ◌+◌}
use Rattle.std.specs.Prelude.{count_by}
use Rattle.clr_map_marks.specs.Points.{count_at, is_at}
use Rattle.clr_map_marks.proofs.point_marks.count_at.Given as goal

-- the changes so far, with those that are left, are all of the set
abbrev pub invariant-loop-change : goal.invariant-loop-change
invariant-loop-change l = l.count + count_by (λ e. is_at e.1 l.place) l.change-iterator ≡ count_at l.set l.place
