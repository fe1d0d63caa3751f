use Rattle.clr_rows.specs.Contents.{row_at}
use Rattle.clr_rules.specs.Needs.{rows_in}
use Rattle.clr_audit.proofs.MeetingLaws.{AreLeft}
use Rattle.clr_audit.proofs.quick_audits.rows.is_seen_to_hold.Given as goal

-- the needs of the rows so far are met
abbrev pub invariant-loop-cell : goal.invariant-loop-cell
invariant-loop-cell g l = AreLeft l.book (row_at l.sheet) (rows_in l.sheet) l.cell-iterator
