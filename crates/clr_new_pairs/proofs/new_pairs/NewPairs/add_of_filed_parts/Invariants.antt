use Rattle.std.proofs.Common.{None, take}
use Rattle.clr_row_versions.specs.Candidates.{IsNeedAmong}
use Rattle.clr_row_versions.specs.Gains.{Gains, OfSome}
use Rattle.clr_new_pairs.specs.NewPairs.{IsNeedOfFiledPart, UpTo}
use Rattle.clr_new_pairs.proofs.new_pairs.NewPairs.add_of_filed_parts.Given as goal

-- the needs of the filed parts so far were added
abbrev pub invariant-loop-filed : goal.invariant-loop-filed
invariant-loop-filed g l =
    Gains (IsNeedAmong l.self.versions.book.now l.rule None l.one l.fresh)
    (OfSome (λ e. UpTo l.last (IsNeedOfFiledPart l.self.versions.book.now l.rule l.fresh l.one l.part e))
    (take l.filed-index l.filed_parts)) l.fn.needs.items l.needs.items
