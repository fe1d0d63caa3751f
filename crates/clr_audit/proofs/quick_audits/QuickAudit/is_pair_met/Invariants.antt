use Rattle.clr_rows.specs.Contents.{row_at}
use Rattle.clr_rows.specs.Held.{held_of}
use Rattle.clr_audit.proofs.MeetingLaws.{AreFirstMet}
use Rattle.clr_audit.proofs.quick_audits.QuickAudit.is_pair_met.Given as goal

-- what is asked of the parts so far is met
abbrev pub invariant-loop-part : goal.invariant-loop-part
invariant-loop-part g l = AreFirstMet l.self.book.now (row_at l.self.sheet.now) l.rule (held_of l.first) (held_of l.second) l.part
