use Rattle.std.proofs.Common.{None}
use Rattle.clr_row_versions.specs.Candidates.{IsNeedAmong}
use Rattle.clr_row_versions.specs.Gains.{Gains}
use Rattle.clr_new_pairs.specs.NewPairs.{AreFiledBefore, ArePartsFiled, UpTo}
use Rattle.clr_new_pairs.proofs.NewPairLaws.{IsNeedWithPartTo}
use Rattle.clr_new_pairs.proofs.new_pairs.NewPairs.add_of_new.Given as goal

-- the versions before and the parts so far are filed, and the needs of those parts were added
abbrev pub invariant-loop-part : goal.invariant-loop-part
invariant-loop-part g l = record {
  before : AreFiledBefore l.self.versions.book.now l.rule l.fresh l.position l.filed;
  parts : ArePartsFiled l.self.versions.book.now l.rule l.filed l.position l.one l.part;
  needs : Gains (IsNeedAmong l.self.versions.book.now l.rule None l.one l.fresh)
      (UpTo l.last (IsNeedWithPartTo l.self.versions.book.now l.rule l.fresh l.position l.one l.part))
      l.fn.needs.items l.needs.items;
}
