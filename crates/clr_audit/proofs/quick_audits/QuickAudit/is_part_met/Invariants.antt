use Rattle.clr_rows.specs.Contents.{row_at}
use Rattle.clr_rows.specs.Held.{held_of}
use Rattle.clr_audit.proofs.MeetingLaws.{AreSecondMet}
use Rattle.clr_audit.proofs.quick_audits.QuickAudit.is_part_met.Given as goal

-- what is asked of the parts so far is met
abbrev pub invariant-loop-other : goal.invariant-loop-other
invariant-loop-other g l = AreSecondMet l.self.book.now (row_at l.self.sheet.now) l.rule (held_of l.first) (held_of l.second) l.part l.other
