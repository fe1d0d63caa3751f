use Rattle.std.proofs.Common.{◌≤◌, arith}
use Rattle.clr_rows.specs.Contents.{row_at}
use Rattle.clr_rows.specs.Held.{held_of}
use Rattle.clr_rules.specs.Calls.{part_count}
use Rattle.clr_rules.specs.Needs.{rows_in}
use Rattle.clr_audit.proofs.MeetingLaws.{all_second, fit_second}
use Rattle.clr_audit.proofs.quick_audits.QuickAudit.is_part_met.Goals as goal

pub part_count-other-end-requires-clause-fit : goal.part_count-other-end-requires-clause-fit
part_count-other-end-requires-clause-fit g c =
    fit_second c.args.self.now.book.now (held_of c.args.first) (held_of c.args.second) (rows_in c.args.self.now.sheet.now) c.requires.fit

pub returns : goal.returns
returns g c =
    let rules = c.args.self.now.book.now in
    let count : part_count rules c.args.rule (held_of c.args.second) ≤ c.loop-other.other = omega (
      arith,
      c.loop-other-test.false,
      c.part_count-other-end.ensures,
      c.loop-other.auto.other-end,
    ) in
    λ _. all_second rules (row_at c.args.self.now.sheet.now) c.args.rule (held_of c.args.first) (held_of c.args.second) c.args.part c.loop-other.other count
    c.loop-other.invariant
