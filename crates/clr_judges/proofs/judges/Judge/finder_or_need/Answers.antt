use Rattle.std.proofs.Common.{subst, sym}
use Rattle.clr_rows.specs.Contents.{row_at}
use Rattle.clr_rules.specs.Needs.{Holds}
use Rattle.clr_judges.proofs.Found.{none_unknown}
use Rattle.clr_judges.proofs.judges.Judge.finder_or_need.Goals as goal

pub returns-then-branch-clause-need : goal.returns-then-branch-clause-need
returns-then-branch-clause-need c =
    sym (none_unknown c.args.self.now c.args.known.now c.args.rows.now (subst (λ book. Holds book (row_at c.args.rows.now)) c.book-book.ensures
    (c.in_ok-is_seen_to_hold.ensures c.if-branch.true)))
