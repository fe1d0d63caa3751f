use Rattle.std.proofs.Common.{◌≡◌}
use Rattle.clr_rows.specs.Held.{held_of}
use Rattle.clr_audit.specs.RoleFiling.{with_parts}
use Rattle.clr_audit.proofs.role_index.RoleIndex.file_parts.Given as goal

-- the parts so far are filed
abbrev pub invariant-loop-part : goal.invariant-loop-part
invariant-loop-part l = l.self ≡ with_parts l.book l.rule l.fn.self l.position (held_of l.held) l.part
