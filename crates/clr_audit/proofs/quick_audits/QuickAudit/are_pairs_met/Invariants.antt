use Rattle.clr_rows.specs.Contents.{row_at}
use Rattle.clr_rows.specs.Held.{held_of}
use Rattle.clr_audit.proofs.MeetingLaws.{AreMetAt}
use Rattle.clr_audit.proofs.quick_audits.QuickAudit.are_pairs_met.Given as goal

-- what is asked beside the rows of the cells so far is met
abbrev pub invariant-loop-cell : goal.invariant-loop-cell
invariant-loop-cell g l = AreMetAt l.self.book.now (row_at l.self.sheet.now) l.rule (held_of l.first) l.cell-items l.cell-index
