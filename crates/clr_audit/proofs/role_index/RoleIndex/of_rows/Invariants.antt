use Rattle.std.proofs.Common.{◌≡◌, drop, map}
use Rattle.clr_rows.specs.Held.{held_of}
use Rattle.clr_audit.specs.RoleFiling.{filed_rows, no_rows_filed}
use Rattle.clr_audit.proofs.role_index.RoleIndex.of_rows.Given as goal

-- the rest filed makes the whole
abbrev pub invariant-loop-position : goal.invariant-loop-position
invariant-loop-position l = filed_rows l.book l.rule l.index l.position (map held_of (drop l.position l.rows))
    ≡ filed_rows l.book l.rule no_rows_filed 0 (map held_of l.rows)
