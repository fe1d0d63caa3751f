use Rattle.std.proofs.Common.{◌≡◌, ◌+◌}
use Rattle.std.specs.Prelude.{count_by}
use Rattle.clr_member_changes.specs.Counts.{counted, is_row_change}
use Rattle.clr_member_changes.proofs.counts.count_of.Given as goal

-- the changes so far, with those that are left, are all of the set
abbrev pub invariant-loop-change : goal.invariant-loop-change
invariant-loop-change l = l.count + count_by (λ e. is_row_change l.kind e.1) l.change-iterator ≡ counted l.kind l.set
