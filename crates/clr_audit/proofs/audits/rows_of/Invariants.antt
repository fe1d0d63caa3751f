use Rattle.std.proofs.Common.{◌≡◌, ◌++◌, map}
use Rattle.clr_rows.specs.Held.{held_of}
use Rattle.clr_rules.specs.Needs.{rows_in}
use Rattle.clr_audit.proofs.audits.rows_of.Given as goal

-- the rows so far, with those that are left, are all rows
abbrev pub invariant-loop-cell : goal.invariant-loop-cell
invariant-loop-cell l = map held_of l.rows.items ++ l.cell-iterator ≡ rows_in l.sheet
