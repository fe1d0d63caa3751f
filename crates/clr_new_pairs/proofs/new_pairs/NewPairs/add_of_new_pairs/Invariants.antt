use Rattle.clr_row_versions.specs.Gains.{Reaches}
use Rattle.clr_new_pairs.specs.NewPairs.{AreFiledBefore, IsNeedOfTwo, Passes}
use Rattle.clr_new_pairs.proofs.NewPairLaws.{IsNeedBefore}
use Rattle.clr_new_pairs.proofs.new_pairs.NewPairs.add_of_new_pairs.Given as goal

-- the versions so far are filed, and the needs of two of them were added
abbrev pub invariant-loop-position : goal.invariant-loop-position
invariant-loop-position g l = record {
  filed : AreFiledBefore l.self.versions.book.now l.rule l.fresh l.position l.filed;
  needs : Reaches (Passes l.self.versions.book.now l.leaves_out) (IsNeedOfTwo l.self.versions.book.now l.rule l.fresh)
      (IsNeedBefore l.self.versions.book.now l.rule l.fresh l.position)
      l.fn.needs.items l.needs.items;
}
