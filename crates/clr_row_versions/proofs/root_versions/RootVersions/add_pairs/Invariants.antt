use Rattle.std.proofs.Common.{take}
use Rattle.clr_row_versions.specs.Candidates.{IsNeedAmong}
use Rattle.clr_row_versions.specs.Gains.{Gains}
use Rattle.clr_row_versions.proofs.root_versions.RootVersions.add_pairs.Given as goal

-- the needs with the others so far were added
abbrev pub invariant-loop-other : goal.invariant-loop-other
invariant-loop-other g l = Gains (IsNeedAmong l.self.book.now l.rule l.server l.one l.others) (IsNeedAmong l.self.book.now l.rule l.server l.one
    (take l.other-index l.others))
    l.fn.needs.items l.needs.items
