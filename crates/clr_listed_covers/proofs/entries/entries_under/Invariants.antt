use Rattle.clr_foot.specs.Scenes.{model_of, setting_of}
use Rattle.clr_listed_covers.proofs.EntryLaws.{AreEntriesTo}
use Rattle.clr_listed_covers.proofs.entries.entries_under.Given as goal

-- entries of the needs so far
abbrev pub invariant-loop-need : goal.invariant-loop-need
invariant-loop-need g l = AreEntriesTo (setting_of (model_of g.V.RowView.content l.scene)) l.pairs l.need-items l.need-index l.list.items
