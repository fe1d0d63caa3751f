use Rattle.std.proofs.Common.{◌≡◌, ◌++◌, map}
use Rattle.clr_rows.specs.Contents.{rows_after}
use Rattle.clr_change.proofs.change_sets.ChangeSet.rows_after.Given as goal

-- the rows so far, with those of the changes that are left, are all of them
abbrev pub invariant-loop-cell : goal.invariant-loop-cell
invariant-loop-cell l = l.rows.items ++ map (λ e. (e.0, e.1.after)) l.cell-iterator ≡ rows_after l.self
