use Rattle.clr_row_versions.specs.Candidates.{IsNeedOf}
use Rattle.clr_row_versions.specs.Gains.{Gains}
use Rattle.std.proofs.Common.{Some}
use Rattle.clr_row_versions.proofs.CandidateLaws.{IsFromUpTo}
use Rattle.clr_row_versions.proofs.root_versions.RootVersions.add_of_two.Given as goal

-- the needs of the parts so far were added
abbrev pub invariant-loop-part : goal.invariant-loop-part
invariant-loop-part g l = Gains (IsNeedOf l.self.book.now l.rule l.server l.first (Some l.second)) (IsFromUpTo l.self.book.now l.rule l.server l.first l.second
    l.part)
    l.fn.needs.items l.needs.items
