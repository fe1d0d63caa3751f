use Rattle.std.proofs.Common.{ℕ, Option, take}
use Rattle.clr_needs.specs.Needs.{IsPossible}
use Rattle.clr_foot.specs.Scenes.{setting_in}
use Rattle.clr_needs.specs.Settings.{Lived}
use Rattle.clr_merge_sets.specs.PositionPairs.{pairs_say}
use Rattle.clr_check.proofs.CoverLemmas.{NoneCovers}
use Rattle.clr_check.proofs.covers.has_cover.Given as goal

-- none of the entries so far covers
abbrev pub invariant-loop-entry : goal.invariant-loop-entry
invariant-loop-entry g l = (a : Lived ℕ) (b : Option (Lived ℕ)) → IsPossible (setting_in g.V.RowView.content l.scene) l.need a b
    → NoneCovers (pairs_say l.pairs) (setting_in g.V.RowView.content l.scene) l.need a b (take l.entry-index l.entries)
