use Rattle.clr_rows.specs.Contents.{row_at}
use Rattle.clr_rows.specs.Held.{held_of}
use Rattle.clr_audit.proofs.MeetingLaws.{AreRulesMet}
use Rattle.clr_audit.proofs.quick_audits.QuickAudit.are_rules_met.Given as goal

-- what the rules so far ask is met
abbrev pub invariant-loop-rule : goal.invariant-loop-rule
invariant-loop-rule g l = AreRulesMet l.self.book.now (row_at l.self.sheet.now) (held_of l.first) l.rule
