use Rattle.clr_row_versions.specs.Candidates.{IsNeedOf}
use Rattle.clr_row_versions.specs.Gains.{Gains}
use Rattle.std.proofs.Common.{Some}
use Rattle.clr_row_versions.proofs.CandidateLaws.{IsUpTo}
use Rattle.clr_row_versions.proofs.root_versions.RootVersions.add_of_part.Given as goal

-- the needs with the other parts so far were added
abbrev pub invariant-loop-other : goal.invariant-loop-other
invariant-loop-other g l = Gains (IsNeedOf l.self.book.now l.rule l.server l.first (Some l.second)) (IsUpTo l.self.book.now l.rule l.server l.first l.second
    l.part l.other)
    l.fn.needs.items l.needs.items
