use Rattle.std.proofs.Common.{◌≡◌, drop}
use Rattle.clr_rows.specs.Schemas.{are_distinct, names_of}
use Rattle.clr_rows.proofs.schemas.table_checks.has_distinct_columns.Given as goal

-- the names so far stand once, so the others decide
abbrev pub invariant-loop-i : goal.invariant-loop-i
invariant-loop-i l = are_distinct (names_of l.table.columns) ≡ are_distinct (names_of (drop l.i l.columns))
