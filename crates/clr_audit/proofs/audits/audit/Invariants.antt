use Rattle.std.proofs.Common.{◌<◌, [], map}
use Rattle.clr_rows.specs.Held.{held_of}
use Rattle.clr_audit.specs.Searches.{GainsBroken}
use Rattle.clr_audit.proofs.audits.audit.Given as goal

-- the broken needs of the rules so far are listed
abbrev pub invariant-loop-rule : goal.invariant-loop-rule
invariant-loop-rule l = GainsBroken l.book (map held_of l.rows.items) (λ b h. b.rule < l.rule) [] l.list.items
