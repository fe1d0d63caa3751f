use Rattle.std.proofs.Common.{◌≡◌, map, drop}
use Rattle.clr_rows.specs.Schemas.{are_distinct}
use Rattle.clr_rows.proofs.schemas.table_checks.have_distinct_names.Given as goal

-- the names so far stand once, so the others decide
abbrev pub invariant-loop-i : goal.invariant-loop-i
invariant-loop-i l = are_distinct (map (λ t. t.name) l.tables) ≡ are_distinct (map (λ t. t.name) (drop l.i l.tables))
