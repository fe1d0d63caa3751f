use Rattle.std.proofs.Common.{take}
use Rattle.clr_row_versions.specs.Candidates.{IsServerAmong}
use Rattle.clr_row_versions.specs.Gains.{Gains}
use Rattle.clr_row_versions.proofs.root_versions.RootVersions.add_servers.Given as goal

-- the servers among the others so far were added
abbrev pub invariant-loop-other : goal.invariant-loop-other
invariant-loop-other g l = Gains (IsServerAmong l.self.book.now l.ask l.first l.second l.others) (IsServerAmong l.self.book.now l.ask l.first l.second
    (take l.other-index l.others))
    l.fn.names.items l.names.items
