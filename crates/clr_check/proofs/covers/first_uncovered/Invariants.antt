use Rattle.clr_foot.specs.Scenes.{setting_in}
use Rattle.clr_merge_sets.specs.Certificates.{entries_in}
use Rattle.clr_merge_sets.specs.PositionPairs.{pairs_say}
use Rattle.clr_check.proofs.JudgeLemmas.{AllBefore}
use Rattle.clr_check.proofs.covers.first_uncovered.Given as goal

-- the needs so far are settled
abbrev pub invariant-loop-need : goal.invariant-loop-need
invariant-loop-need g l = AllBefore (pairs_say l.pairs) (setting_in g.V.RowView.content l.scene) (entries_in l.entries) l.need-items l.need-index
